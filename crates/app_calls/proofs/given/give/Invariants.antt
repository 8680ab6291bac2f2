-- What is still to be given comes to all that is given.
use Rattle.std.proofs.Common.{◌≡◌, ◌-◌, length}
use Rattle.app_calls.specs.Given.{scene, scene_given}
use Rattle.app_calls.proofs.given.give.Given as goal

abbrev pub invariant-loop : goal.invariant-loop
invariant-loop l =
    scene_given l.n l.bytes (length l.bytes) (scene l.initial.e l.initial.store l.initial.picture)
    ≡ scene_given l.n l.bytes (length l.bytes - l.counter) (scene l.e l.store l.picture)
