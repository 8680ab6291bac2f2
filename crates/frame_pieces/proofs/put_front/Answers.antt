-- `frame_pieces::put_front` meets its contract: four patches, each right behind the one before. Assumes nothing.
use Prim.Native.Nat.{ℕ, ◌+◌}
use mathlib.Core.Path.{◌≡◌, refl, ap, sym, ◌∙◌}
use mathlib.Core.List.{◌++◌}
use native.Mathlib.Omega.{arith}
use borrow.Author.Rules.{rules}
use lib.ListN.{length}
use Rattle.wire.specs.Le.{bytes16, bytes32, patch}
use Rattle.wire.specs.laws.Le.{patch_next}
use Rattle.frame_layout.specs.Bytes.{begin_of, region_of, set_count}
use Rattle.quants.specs.Quants.{quant_bytes, sets_of}
use Rattle.frame_pieces.specs.Parts.{set_head_of, front_with}
use Rattle.frame_pieces.specs.laws.Parts.{count_is}
use Rattle.frame_pieces.proofs.put_front.Goals as goal
use Rattle.frame_pieces.proofs.put_front.Goals.{Start}

ten : (s : Start) → (length s.args.q.luma.v ≡ 10) × (length s.args.q.chroma.v ≡ 10)
ten s = search rules

pub returns : goal.returns
unfolding bytes16 bytes32 begin_of region_of set_head_of front_with
returns c =
    let a = c.args in
    let n : 1 + c.chroma_index.result ≡ set_count (sets_of a.q) =
    ap (λ (k : ℕ). 1 + k) c.chroma_index.ensures.0 ∙ sym (count_is a.q (ten (goal.at.returns c).Start).0 (ten (goal.at.returns c).Start).1) in
    let w2 = patch_next _ _ _ _ _ _ _ c.put_begin.ensures c.put_region.ensures refl (omega arith) in
    let w3 = patch_next _ _ _ _ _ _ _ w2 c.put_set.ensures refl (omega arith) in
    patch_next _ _ _ _ _ _ _ w3 c.put_sets.ensures refl (omega arith)
    ∙ ap (λ (k : ℕ). patch a.out.now 0 (begin_of a.idx ++ (region_of a.w a.h ++ (set_head_of a.et k a.n 0 0 ++ quant_bytes (sets_of a.q))))) n
