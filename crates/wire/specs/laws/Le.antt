-- Laws on the writers' lists.
use Rattle.std.specs.Prelude.{ℕ, ◌+◌, ◌-◌, ◌≤◌, ◌≡◌, refl, List, [], ◌∷◌, ◌++◌, length, take, drop, set}
use Rattle.std.proofs.Common.{ap, sym, ◌∙◌, append_assoc, arith, add-zero, zero-add, add_assoc, length-append, length-take, length-drop, take-append-drop}
use Rattle.std.proofs.Common.{add-one, drop-drop, take_at, length-take-le}
use Rattle.std.proofs.Math.Nat.{add-sub_cancel_left}
use Rattle.std.proofs.lemmas.List.{set_split, take-append-le, drop-append-le}
use Rattle.std.proofs.Math.Seq.{drop-append-add, take-append-add}
use Rattle.wire.specs.Le.{patch, written}

-- two stores fill a list of two
pub two : (xs : List ℕ) (a b : ℕ) → length xs ≡ 2 → set (set xs 0 a) 1 b ≡ a ∷ b ∷ []
two [] a b h = absurd (omega arith)
two (x ∷ []) a b h = absurd (omega arith)
two (x ∷ y ∷ []) a b h = refl
two (x ∷ y ∷ z ∷ xs) a b h = absurd (omega arith)

pub four : (xs : List ℕ) (a b c d : ℕ) → length xs ≡ 4 → set (set (set (set xs 0 a) 1 b) 2 c) 3 d ≡ a ∷ b ∷ c ∷ d ∷ []
four [] a b c d h = absurd (omega arith)
four (x ∷ []) a b c d h = absurd (omega arith)
four (x ∷ y ∷ []) a b c d h = absurd (omega arith)
four (x ∷ y ∷ z ∷ []) a b c d h = absurd (omega arith)
four (x ∷ y ∷ z ∷ w ∷ []) a b c d h = refl
four (x ∷ y ∷ z ∷ w ∷ v ∷ xs) a b c d h = absurd (omega arith)

-- a part that was lent and came back as ys is a patch
pub patched : (xs ys zs : List ℕ) (at k : ℕ) → ys ≡ zs → length zs ≡ k → take at xs ++ (ys ++ drop ((at + k) - at) (drop at xs)) ≡ patch xs at zs
unfolding patch
patched xs ys zs at k e h = rw (e, add-sub_cancel_left, drop-drop, h)

-- a store of one is a patch
pub set_patch : (xs : List ℕ) (at v : ℕ) → at + 1 ≤ length xs → set xs at v ≡ patch xs at (v ∷ [])
unfolding patch
set_patch xs at v h = set_split xs at v (omega arith) ∙ rw add-one

drop_more : (done ys out : List ℕ) (at : ℕ) → length done ≡ at → drop (at + length ys) (done ++ drop (length done) out) ≡ drop (length (done ++ ys)) out
drop_more done ys out at l = rw (← l, drop-append-add, drop-drop, length-append)

-- a patch right behind what has been written
pub wrote_next :
    (x y done ys out : List ℕ) (at : ℕ) → y ≡ patch x at ys → x ≡ written done out → length done ≡ at → y ≡ written (done ++ ys) out
unfolding patch written
wrote_next x y done ys out at e w l =
    e ∙ rw (w, take_at done (drop (length done) out) at l)
    (ap (λ (t : List ℕ). done ++ (ys ++ t)) (drop_more done ys out at l) ∙ sym (append_assoc done ys (drop (length (done ++ ys)) out)))

pub patch_length : (xs ys : List ℕ) (at : ℕ) → at + length ys ≤ length xs → length (patch xs at ys) ≡ length xs
unfolding patch
patch_length xs ys at h = simp (length-append, length-take, length-drop) (omega arith)

patch_inside : (done ys rest : List ℕ) (at : ℕ) → at + length ys ≤ length done → patch (done ++ rest) at ys ≡ patch done at ys ++ rest
unfolding patch
patch_inside done ys rest at l = rw (take-append-le at done rest (omega arith), drop-append-le (at + length ys) done rest l) (simp append_assoc)

-- a patch inside what has been written
pub refilled :
    (x y done ys out : List ℕ) (at : ℕ) → y ≡ patch x at ys → x ≡ written done out → at + length ys ≤ length done → y ≡ written (patch done at ys) out
unfolding written
refilled x y done ys out at e w l =
    e ∙ rw (w, patch_length done ys at l) (patch_inside done ys (drop (length done) out) at l)

pub none_written : (out : List ℕ) → out ≡ written [] out
unfolding written
none_written out = refl

-- a patch is a front that has been written, of the list itself
pub patch_written : (xs ys : List ℕ) (at : ℕ) → at ≤ length xs → patch xs at ys ≡ written (take at xs ++ ys) xs
unfolding patch written
patch_written xs ys at h = rw (length-append, length-take-le at xs h) (sym (append_assoc (take at xs) ys (drop (at + length ys) xs)))

-- two patches, the second right behind the first
pub patch_next : (x y xs a b : List ℕ) (at k : ℕ) → x ≡ patch xs at a → y ≡ patch x k b → k ≡ at + length a → at ≤ length xs → y ≡ patch xs at (a ++ b)
patch_next x y xs a b at k e f s h =
    wrote_next x y (take at xs ++ a) b xs k f (e ∙ patch_written xs a at h) (simp (length-append, length-take-le at xs h) (sym s))
    ∙ (ap (λ (d : List ℕ). written d xs) (append_assoc (take at xs) a b) ∙ sym (patch_written xs (a ++ b) at h))

pub patch_none : (xs : List ℕ) (at : ℕ) → xs ≡ patch xs at []
unfolding patch
patch_none xs at = sym (rw add-zero (take-append-drop at xs))

patch_behind : (p a b : List ℕ) (at k : ℕ) → length p ≡ at → patch (p ++ a) (at + k) b ≡ p ++ patch a k b
unfolding patch
patch_behind p a b at k l =
    rw (← l, take-append-add p a k, add_assoc (length p) k (length b), drop-append-add p a (k + length b))
    (append_assoc p (take k a) (b ++ drop (k + length b) a))

-- a patch inside an earlier one: numbers filled in afterwards
pub patch_refill :
    (x y xs a b : List ℕ) (at k : ℕ) → x ≡ patch xs at a → y ≡ patch x (at + k) b → k + length b ≤ length a → at ≤ length xs → y ≡ patch xs at (patch a k b)
patch_refill x y xs a b at k e f s h =
    let l = length-take-le at xs h in
    refilled x y (take at xs ++ a) b xs (at + k) f (e ∙ patch_written xs a at h) (simp (length-append, l) (omega arith))
    ∙ (ap (λ (d : List ℕ). written d xs) (patch_behind (take at xs) a b at k l) ∙ sym (patch_written xs (patch a k b) at h))

-- a patch at the start is a front written
pub patch_front : (xs ys : List ℕ) → patch xs 0 ys ≡ written ys xs
unfolding patch written
patch_front xs ys = rw zero-add
