-- Our card: the definitions that the contracts of its public calls cite. Assumes nothing: this is a definition.
use Rattle.slot_calls.specs.Calls.{loaded, moved, cleared, shown}
use Rattle.traffic.specs.Traffic.{traffic_refusal, traffic_blocks, trafficked}
use Rattle.whole.specs.Whole.{whole_refusal, whole_blocks, wholed}
use Rattle.two_runs.specs.Card.{Card, card_by}

abbrev pub our_card : Card
our_card = card_by loaded moved cleared shown traffic_refusal traffic_blocks trafficked whole_refusal whole_blocks wholed
