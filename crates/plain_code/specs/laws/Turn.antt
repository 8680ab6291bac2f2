-- A turn of the loop over elements: what it keeps, whatever kind of element it took.
use Rattle.std.specs.Prelude.{ℕ, ◌+◌, ◌*◌, ◌-◌, ◌≤◌, ◌<◌, min, ◌≡◌, refl, Bool, List, ℤ, pos, length, drop, set, replicate, Ok}
use Rattle.std.proofs.Common.{sym, ap, subst, arith, length-drop, length-append}
use borrow.Author.Tests.{lt-ltb, le-ltb}
use Rattle.whole.specs.Row.{◌⇒◌∣◌}
use Rattle.bits.specs.Bits.{bits_of}
use Rattle.bits.specs.laws.Bit.{length_bits_of}
use Rattle.code.specs.Fold.{unfold_z}
use Rattle.code.specs.ReadList.{state_at, elem_of}
use Rattle.code.specs.Fill.{stored_of, Filling}
use Rattle.code.specs.laws.Filling.{filling_start, filling_next}
use Rattle.code.specs.laws.Taken.{Told, Took, elem_told}
use Rattle.code.specs.declared.element.State.{State}
use Rattle.code.specs.declared.element.Element.{Element}
use Rattle.code.specs.declared.element.Element.TheVariants.{Zeros, One, Two}

-- the list is being filled, and the place lies within the bytes
pub record Going (rlgr3 : Bool) (s : List ℕ) (out : List ℤ) (c : State) (i : ℕ) : Type 0 where
  pub place : c.at ≤ 8 * length s
  pub fill : Filling rlgr3 4096 (bits_of s) out c i

pub going_start : (rlgr3 : Bool) (s : List ℕ) (out : List ℤ) (c : State) → length out ≡ 4096 → out ≡ replicate (length out) (pos 0) → c ≡ state_at 0 8 8 →
    Going rlgr3 s out c 0
going_start rlgr3 s out c l z e =
    subst (λ (x : State). Going rlgr3 s out x 0) (sym e) (record { place = omega arith; fill = filling_start rlgr3 4096 (bits_of s) out l z })

took_in : (rlgr3 : Bool) (kp krp left at : ℕ) (B : List Bool) (front : List ℕ) (t : State) → Took rlgr3 kp krp left at B front t → at ≤ length B
    → t.at ≤ length B
took_in rlgr3 kp krp left at B front t w h =
    omega (arith, w.place, ap length w.bits, length-append w.H (drop t.at B), length-drop at B, length-drop t.at B)

-- one turn, with place left
module _ (rlgr3 : Bool) (s : List ℕ) (out : List ℤ) (c : State) (i : ℕ) (w : Going rlgr3 s out c i) (h : i < 4096) where
  abbrev B : List Bool
  B = bits_of s

  abbrev Here : Element → Type 0
  Here e = Ok e ≡ elem_of rlgr3 c.kp c.krp (4096 - i) c.at B

  abbrev Next : List ℤ → State → ℕ → Type 0
  Next new t j = Going rlgr3 s new t j × (i < j)

  told : (e : Element) → Here e → Told rlgr3 c.kp c.krp (4096 - i) c.at B (Ok e)
  told e q = subst (Told rlgr3 c.kp c.krp (4096 - i) c.at B) (sym q) (elem_told rlgr3 c.kp c.krp (4096 - i) c.at B (omega arith))

  onward : (front : List ℕ) (new : List ℤ) (t : State) (j k : ℕ) → Took rlgr3 c.kp c.krp (4096 - i) c.at B front t →
      Filling rlgr3 4096 B new t j × (i < j) → k ≡ j → Next new t k
  onward front new t j k o r e = (
    record {
      place = omega (arith, took_in rlgr3 c.kp c.krp (4096 - i) c.at B front t o (omega (arith, w.place, length_bits_of s)), length_bits_of s);
      fill = subst (λ (n : ℕ). Filling rlgr3 4096 B new t n) (sym e) r.0;
    },
    omega (arith, r.1),
  )

  pub going_zeros : (z k : ℕ) (t : State) → Here (Zeros z t) → k ≡ min 4096 (i + z) → Next out t k
  going_zeros z k t q e =
      onward _ out t (min 4096 (i + z)) k (told (Zeros z t) q) (filling_next rlgr3 4096 B out c i w.fill h (Zeros z t) q) e

  pub going_one : (z v : ℕ) (t : State) (x : ℤ) → Here (One z v t) → x ≡ unfold_z v → Next (set out (i + z) x) t (i + z + 1)
  going_one z v t x q e =
      onward _ (set out (i + z) x) t (i + z + 1) (i + z + 1) (told (One z v t) q)
      (rw e (filling_next rlgr3 4096 B out c i w.fill h (One z v t) q)) refl

  module _ (a b k : ℕ) (t : State) (q : Here (Two a b t)) (f : k ≡ min 4096 (i + 2)) (x : ℤ) (e : x ≡ unfold_z a) where
    both : (new : List ℤ) → new ≡ stored_of out i (Two a b t) → Next new t k
    both new g =
        onward _ new t (min 4096 (i + 2)) k (told (Two a b t) q)
        (rw g (filling_next rlgr3 4096 B out c i w.fill h (Two a b t) q)) f

    pub going_lone : 4095 ≤ i → Next (set out i x) t k
    unfolding ◌⇒◌∣◌
    going_lone l = both (set out i x) (rw (e, le-ltb (i + 1) (length out) (omega (arith, w.fill.clear.len))))

    pub going_two : (y : ℤ) → y ≡ unfold_z b → i < 4095 → Next (set (set out i x) (i + 1) y) t k
    unfolding ◌⇒◌∣◌
    going_two y g l = both (set (set out i x) (i + 1) y) (rw (e, g, lt-ltb (i + 1) (length out) (omega (arith, w.fill.clear.len))))
