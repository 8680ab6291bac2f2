-- The number and the settings are those of `read_settings`.
use Rattle.std.proofs.Common.{ap, ◌∙◌}
use Rattle.settings.specs.declared.Settings.{Settings}
use Rattle.settings.specs.Settings.{store_number, given}
use Rattle.panel.proofs.cabinet.xurbalenz_read_settings.Goals as goal

pub returns : goal.returns
returns c =
    let e = c.read_settings-answer.ensures in
    let s = c.given-s.ensures ∙ ap given e in
    record {
      said = c.number_of.ensures ∙ ap store_number e;
      luma_is = ap (λ (t : Settings). t.quants.luma.v) s;
      chroma_is = ap (λ (t : Settings). t.quants.chroma.v) s;
      mode_is = ap (λ (t : Settings). t.mode) s;
    }
