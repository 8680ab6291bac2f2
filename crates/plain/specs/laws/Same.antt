-- The plain decoder and the product give the same: two equations with the same definition, one the other way round.
use Rattle.std.specs.Prelude.{ℕ, ◌+◌, ◌*◌, ◌≡◌, refl, List, ℤ}
use Rattle.std.proofs.Common.{sym, ap, ◌∙◌, arith, eq-eqb}
use Rattle.whole.specs.laws.Row.{both, passes}
use Rattle.code.specs.Read.{reading_number, reading_bits}
use Rattle.tile_back.specs.Component.{component_fault, coefficients_of}
use Rattle.tile_back.specs.Word.{word_at}
use Rattle.plain.specs.Plain.{component_into, Component, samples_into}
use Rattle.plain.specs.Same.{Plane, PlainSame}

samples_are : (mode : ℕ) (q s : List ℕ) (a b : List ℤ) → Plane mode q s a b → a ≡ b
unfolding samples_into
samples_are mode q s a b p = p.did.list ∙ sym (passes _ _ _ _ (eq-eqb _ 0 (sym p.did.number ∙ p.none)) p.ours_did)

coefficients_are : (mode : ℕ) (q s : List ℕ) (before a : List ℤ) (r : ℕ) → Component mode q s before a r → r ≡ 0 → a ≡ coefficients_of mode q s
unfolding component_into component_fault
coefficients_are mode q s before a r c z =
    let f : 0 ≡ component_fault mode q s = sym z ∙ c.number in
    c.list ∙ sym (passes _ _ _ _ (eq-eqb _ 0 (sym (both _ _ f).0)) (passes _ _ _ _ (eq-eqb _ 0 (sym f)) refl))

pub plain_same : PlainSame
plain_same = record {
  component = λ mode s before a b r t c d.
      let e = c.answer ∙ sym d.answer in
      record { number = ap reading_number e; bits = ap reading_bits e; list = c.list ∙ sym d.list };
  number = λ mode q s before a other b r t c d. c.number ∙ sym d.number;
  coefficients = λ mode q s before a ours r c z e. coefficients_are mode q s before a r c z ∙ sym e;
  samples_number = λ mode q s before a other b r t c d. c.number ∙ sym d.number;
  samples = samples_are;
  pixels = λ glass mode p q r s t u ys cbs crs oy ob or a b c words row y x w v h j.
      w.word (64 * y + x) (omega arith)
      ∙ (words_alike glass (samples_are mode p s ys oy a) (samples_are mode q t cbs ob b) (samples_are mode r u crs or c) (64 * y + x) ∙ sym (v.word x j));
}
  where
    words_alike : (glass : ℕ) {ys cbs crs oy ob or : List ℤ} → ys ≡ oy → cbs ≡ ob → crs ≡ or → (i : ℕ) → word_at glass ys cbs crs i ≡ word_at glass oy ob or i
    words_alike glass a b c i = rw (a, b, c)
