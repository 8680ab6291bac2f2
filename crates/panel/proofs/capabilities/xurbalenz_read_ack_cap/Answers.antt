-- `panel::capabilities::xurbalenz_read_ack_cap` meets its contract: the answer's number and count are those of `read_ack_cap`.
-- Assumes nothing.
use mathlib.Core.Path.{ap, ◌∙◌}
use Rattle.std.specs.Prelude.{ℕ, Result}
use Rattle.wire.specs.Refusal.{number_of}
use Rattle.wire.specs.declared.Refusal.{Refusal}
use Rattle.caps.specs.AckCap.{ack_cap_count}
use Rattle.panel.proofs.capabilities.xurbalenz_read_ack_cap.Goals as goal

pub returns : goal.returns
returns c =
    let answer = c.read_ack_cap-answer.ensures in
    record {
      said = c.number_of.ensures ∙ ap (λ (r : Result ℕ Refusal). number_of r) answer;
      count_is = c.ack_cap_count.ensures ∙ ap ack_cap_count answer;
    }
