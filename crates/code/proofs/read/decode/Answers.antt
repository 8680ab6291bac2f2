-- `code_read::decode` meets its contract: the cleared list holds zeros, as filling asks, and has 4,096 places. Assumes nothing.
use Prim.Native.Nat.{ℕ}
use mathlib.Core.Path.{sym, ap, subst, ◌∙◌}
use native.Mathlib.Omega.{arith}
use lib.IntN.{pos}
use lib.ListN.{replicate}
use Rattle.bits.specs.Bits.{bits_of}
use Rattle.code.specs.ReadList.{read_list}
use Rattle.code.specs.Fill.{Fills}
use Rattle.code.proofs.read.decode.Goals as goal

pub fill-requires : goal.fill-requires
fill-requires c =
    let l = c.clear in
    (c.requires.0, omega (arith, l.auto.list, c.requires.1), l.ensures ∙ ap (λ (k : ℕ). replicate k (pos 0)) (sym l.auto.list))

pub returns : goal.returns
returns c =
    let f = c.fill in
    let l = c.clear in
    subst (λ (n : ℕ). Fills (read_list c.args.rlgr3 n (bits_of c.args.s.now)) f.new.list f.result) (l.auto.list ∙ c.requires.1) f.ensures
