-- `case_reader::iv_of`: its part has as many bytes. Assumes nothing.
use Rattle.std.proofs.Common.{lit<}
use Rattle.case_reader.proofs.Passed.{iv_bytes}
use Rattle.case_reader.proofs.iv_of.Goals as goal

pub bytes_of-requires : goal.bytes_of-requires
bytes_of-requires c = (lit< tt, iv_bytes c.requires)
