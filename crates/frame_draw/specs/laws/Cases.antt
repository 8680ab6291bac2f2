-- Request Three's two cases, by the laws of drawing.
-- Assumes nothing.
use Rattle.std.specs.Prelude.{ℕ, zero, suc, ◌+◌, ◌*◌, ◌/◌, ◌<◌, ◌≡◌, refl, true, false, List, [], ltb}
use Rattle.std.proofs.Common.{ap, sym, ◌∙◌, ⊎_elim, arith, le-leb, le-ltb, eq-eqb}
use Rattle.wire.specs.Le.{le16}
use Rattle.whole.specs.Row.{◌!◌⨾◌, ◌⇒◌∣◌}
use Rattle.whole.specs.laws.Row.{passes, fails, case_yes, case_no}
use Rattle.frame_draw.specs.Draw.{inside, holds, some, in_region, row_on, row_drawn, rows_drawn, tile_drawn, shown}
use Rattle.frame_draw.specs.laws.Draw.{region_all, region_is}
use Rattle.frame_draw.specs.laws.Pixels.{split, pixel}
use Rattle.frame_draw.specs.laws.Stores.{stores_off}
use Rattle.frame_draw.specs.Cases.{thin, Cases}

whole : (px py : ℕ) → px < 64 → py < 64 → shown [] 0 0 0 px py ≡ true
unfolding shown
whole px py a b =
    sym (passes _ _ _ _ (eq-eqb (px / 64) 0 (omega arith)) (passes _ _ _ _ (eq-eqb (py / 64) 0 (omega arith)) (sym (region_all [] px py 0 refl))))

dark : (px py : ℕ) → in_region thin 1 px py ≡ false
unfolding some holds inside le16 ◌⇒◌∣◌
dark px py =
    region_is thin px py 1 (omega arith)
    ∙ sym (case_no _ _ _ _ (sym (passes _ _ _ _ (le-leb 0 px (omega arith)) (fails _ _ _ _ (le-ltb px 0 (omega arith)) refl))) refl)

row_dark : (val : ℕ → ℕ) (py : ℕ) (pic : List ℕ) → row_drawn thin 1 val 64 0 py pic ≡ pic
unfolding row_drawn row_on ◌!◌⨾◌
row_dark val py pic =
    sym (stores_off _ _ _ 64 0 pic
    (λ x p q.
    ⊎_elim
    (λ (s : ltb (64 * 0 + x) 64 ≡ true). rw s (dark (64 * 0 + x) py))
    (λ (s : ltb (64 * 0 + x) 64 ≡ false). rw s refl)
    (split (ltb (64 * 0 + x) 64))))

rows_dark : (val : ℕ → ℕ) (j y : ℕ) (pic : List ℕ) → rows_drawn thin 1 val 64 64 0 0 j y pic ≡ pic
unfolding rows_drawn ◌⇒◌∣◌
rows_dark val zero y pic = refl
rows_dark val (suc j) y pic =
    ⊎_elim
    (λ (s : ltb (64 * 0 + y) 64 ≡ true). rw s (rows_dark val j (y + 1) _ ∙ row_dark _ (64 * 0 + y) pic))
    (λ (s : ltb (64 * 0 + y) 64 ≡ false). rw s (rows_dark val j (y + 1) pic))
    (split (ltb (64 * 0 + y) 64))

pub cases : Cases
unfolding tile_drawn
cases =
    record {
      count_0 = λ val pic px py l a b.
          pixel [] 0 val 64 64 0 0 px py a pic b l ∙ (sym (case_yes _ _ _ _ (whole px py a b) refl) ∙ ap val (omega arith));
      width_0 = λ val pic. rows_dark val 64 0 pic;
    }
