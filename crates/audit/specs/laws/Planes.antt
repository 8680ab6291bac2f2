-- Both decoders leave a plane where their number is 0.
use Rattle.std.specs.Prelude.{ℕ, ◌≡◌, refl, List, ℤ}
use Rattle.std.proofs.Math.Path.{sym}
use Rattle.std.proofs.Common.{subst, ◌∙◌, eq-eqb}
use Rattle.whole.specs.laws.Row.{passes}
use Rattle.tile_back.specs.Component.{component_fault, samples_of}
use Rattle.tile_back.specs.Word.{Plane}
use Rattle.tile_back.specs.laws.Word.{samples_plane}
use Rattle.plain.specs.Plain.{samples_into, Sampled}

module _ (mode : ℕ) (q s : List ℕ) (e : 0 ≡ component_fault mode q s) where
  pub ours_plane : (after : List ℤ) → after ≡ samples_of mode q s → Plane after
  ours_plane after p = subst Plane (sym p) (samples_plane mode q s e)

  pub plain_plane : (before after : List ℤ) (n : ℕ) → Sampled mode q s before after n → Plane after
  unfolding samples_into
  plain_plane before after n d = ours_plane after (d.list ∙ sym (passes _ _ _ _ (eq-eqb _ 0 (sym e)) refl))
