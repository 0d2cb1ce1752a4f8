-- A reason as plain numbers, case by case.
use Rattle.whys.specs.Why.{Reason, refused, ended, running, not_booked, unfed, no_processor}
use Rattle.cephlouk.specs.ReasonKind
use Rattle.cephlouk.specs.declared.FlatReason.{FlatReason}

abbrev pub flat : Reason → FlatReason
flat (refused k) = record { number = k; kind = ReasonKind.refused; task = 0; lack = 0 }
flat ended = record { number = 0; kind = ReasonKind.ended; task = 0; lack = 0 }
flat running = record { number = 0; kind = ReasonKind.running; task = 0; lack = 0 }
flat (not_booked first lack) = record { number = 0; kind = ReasonKind.not_booked; task = first; lack = lack.chilled }
flat (unfed child) = record { number = 0; kind = ReasonKind.unfed; task = child; lack = 0 }
flat no_processor = record { number = 0; kind = ReasonKind.no_processor; task = 0; lack = 0 }
