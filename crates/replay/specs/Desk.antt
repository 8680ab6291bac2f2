-- What goes on from record to record of a recording: each maker of it as an equation.
use Rattle.std.specs.Prelude.{ℕ, Bool, true, false, ◌==◌}
use Rattle.whole.specs.Row.{◌⇒◌∣◌}
use Rattle.session.specs.declared.Session.{Session}
use Rattle.session.specs.Header.{record_of}
use Rattle.collect.specs.Collect.{fresh}
use Rattle.collect.specs.declared.Collector.{Collector}
use Rattle.replay.specs.declared.collector.Store.{Store}
use Rattle.replay.specs.declared.records.Desk.{Desk}

abbrev pub desk : Session → Collector → ℕ → Bool → ℕ → ℕ → ℕ → Desk
desk s c picture wide written lent filled =
    record { s = s; c = c; picture = picture; wide = wide; written = written; lent = lent; filled = filled; go = true }

-- no record more
abbrev pub stopped_desk : Desk → Desk
stopped_desk d =
    record { s = d.s; c = d.c; picture = d.picture; wide = d.wide; written = d.written; lent = d.lent; filled = d.filled; go = false }

-- a new case: fresh records, no picture, nothing written, no store
abbrev pub fresh_desk : Desk
fresh_desk = desk (record_of 0 0 0 0 0) fresh 0 false 0 0 0

-- a call that could not be made answers the largest number of 64 bits
abbrev pub unmade : ℕ → Bool
unmade n = n == 18446744073709551615

unfoldable pub told_desk : Desk → Bool → Desk
told_desk d made = made ⇒ d ∣ stopped_desk d

abbrev pub records_desk : Desk → Session → Collector → Desk
records_desk d s c = desk s c d.picture d.wide d.written d.lent d.filled

unfoldable pub written_desk : Desk → ℕ → Desk
written_desk d n = unmade n ⇒ stopped_desk d ∣ desk d.s d.c d.picture d.wide n d.lent d.filled

unfoldable pub picture_desk : Desk → ℕ → Bool → Desk
picture_desk d n wide = unmade n ⇒ stopped_desk d ∣ desk d.s d.c n wide d.written d.lent d.filled

unfoldable pub store_desk : Desk → Store → Desk
store_desk d k = unmade k.lent ⇒ stopped_desk d ∣ desk d.s k.c d.picture d.wide d.written k.lent k.filled
