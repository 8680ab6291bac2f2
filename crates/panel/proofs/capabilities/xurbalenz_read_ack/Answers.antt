-- `panel::capabilities::xurbalenz_read_ack` meets its contract: the answer's number and fields are those of `read_ack`.
-- Assumes nothing.
use mathlib.Core.Path.{ap, ◌∙◌}
use Rattle.std.specs.Prelude.{Result}
use Rattle.wire.specs.Refusal.{number_of}
use Rattle.wire.specs.declared.Refusal.{Refusal}
use Rattle.caps.specs.declared.Ack.{Ack}
use Rattle.caps.specs.Ack.{ack_fields}
use Rattle.panel.specs.Capabilities.{numbers_of}
use Rattle.panel.proofs.capabilities.xurbalenz_read_ack.Goals as goal

pub returns : goal.returns
returns c =
    let answer = c.read_ack-answer.ensures in
    record {
      said = c.number_of.ensures ∙ ap (λ (r : Result Ack Refusal). number_of r) answer;
      fields_are = ap numbers_of (c.ack_fields-a.ensures ∙ ap ack_fields answer);
    }
