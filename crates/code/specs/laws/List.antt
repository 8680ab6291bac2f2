-- The laws of the code: read back, unique, complete, and none the start of another.
use Rattle.std.specs.Prelude.{ℕ, ◌+◌, ◌≡◌, refl, Bool, List, [], ◌++◌, length, drop}
use Rattle.std.proofs.Common.{sym, ap, ◌∙◌, zero-add, le_refl}
use Rattle.code.specs.Code.{code_f, code_of, InRange}
use Rattle.code.specs.ReadList.{read_list, whole}
use Rattle.code.specs.laws.There.{code_read}
use Rattle.code.specs.laws.Taken.{read-code}

-- every list in range is read back from its code, whatever stands after it
pub read_back :
    (rlgr3 : Bool) (xs : List ℕ) (rest : List Bool) → InRange xs →
    read_list rlgr3 (length xs) (code_of rlgr3 xs ++ rest) ≡ whole xs (length (code_of rlgr3 xs))
unfolding code_of read_list
read_back rlgr3 xs rest r = code_read (length xs) rlgr3 8 8 xs (code_of rlgr3 xs ++ rest) (le_refl _) r 0 [] rest refl ∙ ap (λ (n : ℕ). whole xs n) (zero-add _)

pub record Taken (rlgr3 : Bool) (n : ℕ) (B : List Bool) (ys : List ℕ) (next : ℕ) : Type 0 where
  pub len : length ys ≡ n
  pub range : InRange ys
  pub place : next ≡ length (code_of rlgr3 ys)
  pub bits : B ≡ code_of rlgr3 ys ++ drop next B

-- whatever is accepted is the code of the list handed back, and the length said is its length
pub taken : (rlgr3 : Bool) (n : ℕ) (B : List Bool) (ys : List ℕ) (next : ℕ) → read_list rlgr3 n B ≡ whole ys next → Taken rlgr3 n B ys next
unfolding read_list code_of
taken rlgr3 n B ys next e =
    let r = read-code n rlgr3 8 8 0 n [] B ys next (le_refl n) e in
    flat n B ys next r.xs r.all r.len r.range r.place r.bits
  where
    flat :
        (n : ℕ) (B : List Bool) (ys : List ℕ) (next : ℕ) (xs : List ℕ) → ys ≡ xs → length xs ≡ n → InRange xs → next ≡ 0 + length (code_f n rlgr3 8 8 xs) →
        B ≡ code_f n rlgr3 8 8 xs ++ drop next B → Taken rlgr3 n B ys next
    flat n B ys next xs ea el r p b =
        let c : code_f n rlgr3 8 8 xs ≡ code_f (length ys) rlgr3 8 8 ys = rw (ea, el) in
        record { len = ap length ea ∙ el; range = rw ea r; place = p ∙ zero-add _ ∙ ap length c; bits = b ∙ ap (λ (l : List Bool). l ++ drop next B) c }

-- no code is the start of another of the same number of values
pub prefix_free :
    (rlgr3 : Bool) (xs ys : List ℕ) (r s : List Bool) → length xs ≡ length ys → InRange xs → InRange ys → code_of rlgr3 xs ++ r ≡ code_of rlgr3 ys ++ s →
    xs ≡ ys
prefix_free rlgr3 xs ys r s l p q e =
    let a = read_back rlgr3 xs r p in
    let b = read_back rlgr3 ys s q in
    let c : whole xs (length (code_of rlgr3 xs)) ≡ whole ys (length (code_of rlgr3 ys)) =
    sym a ∙ ap (λ (n : ℕ). read_list rlgr3 n (code_of rlgr3 xs ++ r)) l ∙ ap (λ (t : List Bool). read_list rlgr3 (length ys) t) e ∙ b in
    cc
