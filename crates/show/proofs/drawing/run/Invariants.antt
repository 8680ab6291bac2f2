-- Turn by turn what is shown is what the pieces so far give.
use Rattle.std.specs.Prelude.{map}
use Rattle.app_text.specs.First.{first_of}
use Rattle.app_calls.specs.Given.{scene}
use Rattle.show.specs.Play.{Shown}
use Rattle.show.proofs.drawing.run.Given as goal

abbrev pub invariant-loop : goal.invariant-loop
invariant-loop g l =
    let w = g.W.GlassWord in
    Shown w.GLASS (scene l.initial.t.d l.initial.store (map w.number l.initial.picture)) (scene l.t.d l.store (map w.number l.picture)) (first_of l.piece l.t.n)
