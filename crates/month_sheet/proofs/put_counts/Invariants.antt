-- `month_sheet::put_counts`: with each code its text is no longer left. Assumes nothing.
use Prim.Native.Nat.{◌≤◌, ◌+◌, ◌-◌, ◌*◌}
use lib.ListN.{get_or}
use Rattle.writing.proofs.Left.{Left}
use Rattle.month_sheet.specs.Sheet.{count_text, texts, longest_count}
use Rattle.month_sheet.proofs.put_counts.Given as goal

abbrev pub invariant-loop-code : goal.invariant-loop-code
invariant-loop-code l =
    (l.end + longest_count ≤ l.at + l.code * longest_count)
    × Left l.initial.buffer l.at (texts (λ code. count_text code (get_or l.figures (195 + code) 0)) 1 27) l.buffer l.end
    (texts (λ code. count_text code (get_or l.figures (195 + code) 0)) l.code (28 - l.code))
