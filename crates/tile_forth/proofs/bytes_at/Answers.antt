-- The pixel's bytes are those of the definition; what `component` says of them is said of the place.
use mathlib.Core.Path.{◌∙◌, sym, subst}
use mir.Syntax.{w32}
use Rattle.whole.specs.laws.Near.{Near, back_ok}
use Rattle.tile_forth.specs.TileForth.{bytes_at}
use Rattle.tile_forth.proofs.bytes_at.Goals as goal

pub returns : goal.returns
unfolding bytes_at
returns c =
    let b = back_ok w32 c.component.result c.component.type_inv in
    (b ∙ c.component.ensures.0, subst (Near 16384) (sym b) c.component.ensures.1)
