-- `panel::capabilities::xurbalenz_read_caps` meets its contract: the answer's number and fields are those of `read_caps`.
-- Assumes nothing.
use mathlib.Core.Path.{ap, ◌∙◌}
use Rattle.std.specs.Prelude.{Result}
use Rattle.wire.specs.Refusal.{number_of}
use Rattle.wire.specs.declared.Refusal.{Refusal}
use Rattle.caps.specs.Caps.{caps_fields}
use Rattle.panel.specs.Capabilities.{entry_bytes}
use Rattle.caps.specs.declared.Caps.{Caps}
use Rattle.panel.proofs.capabilities.xurbalenz_read_caps.Goals as goal

pub returns : goal.returns
returns c =
    let answer = c.read_caps-answer.ensures in
    let f = c.caps_fields-c.ensures ∙ ap caps_fields answer in
    record {
      said = c.number_of.ensures ∙ ap (λ (r : Result Caps Refusal). number_of r) answer;
      flags_are = ap (λ (x : Caps). x.flags) f;
      n_is = ap (λ (x : Caps). x.n) f;
      entries_are = ap entry_bytes f;
    }
