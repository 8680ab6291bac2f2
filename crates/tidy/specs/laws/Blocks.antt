-- The blocks that go on are those that came, in some order (`same_blocks`), and put into order again they stay as they are (`twice_once`): a block that is no
-- good sync, or behind which the three do not come, stays where it is, and the three come in one of six orders.
use Rattle.std.specs.Prelude.{ℕ, ◌≡◌, refl, Bool, true, false, eqb}
use Rattle.std.proofs.Common.{ap, ◌∙◌, subst, eq-eqb, ne_eqb}
use Rattle.std.proofs.Math.Path.{sym}
use Rattle.std.proofs.Math.Bool.{true≢false}
use mathlib.Core.List.Perm
use mathlib.Core.List.{List, [], ◌∷◌, Perm}
use Rattle.std.proofs.lemmas.Bool.{eqb-false}
use Rattle.whole.specs.Row.{◌!◌⨾◌, ◌⇒◌∣◌}
use Rattle.whole.specs.laws.Row.{passes, fails, held, case_yes, case_no}
use Rattle.tidy.specs.Headers.{kind_of, is_sync, waits, is_three, is_group, of_kind, blocks_on}
use Rattle.tidy.specs.laws.Headers.{Which, versions, channels, context, kind_which, waits_some}
use Rattle.tidy.specs.laws.Sync.{sync_kind}
use Rattle.tidy.specs.declared.headers.Waiting.{Waiting}

-- ---- the three, as they wait one after the other

abbrev pub waiting_for : ℕ → ℕ → Waiting
waiting_for i j = record { on = 1; first = i; second = j }

-- does a block wait as the first behind a sync, as the second, as the third?
abbrev pub waits1 : List ℕ → Bool
waits1 a = waits (waiting_for 0 0) (kind_of a)

abbrev pub waits2 : List ℕ → List ℕ → Bool
waits2 a b = waits (waiting_for (kind_of a) 0) (kind_of b)

abbrev pub waits3 : List ℕ → List ℕ → List ℕ → Bool
waits3 a b c = waits (waiting_for (kind_of a) (kind_of b)) (kind_of c)

three_by : (a b c d e f : Bool) →
    (a ⇒ false ∣ b ⇒ false ∣ c ⇒ false ∣ d ⇒ false ∣ e ⇒ false ∣ f ⇒ false ∣ true) ≡
    ((true ! false ⨾ a ⇒ false ∣ a ⇒ false ∣ a ⇒ false ∣ true) ! false ⨾
    (true ! false ⨾ b ⇒ false ∣ c ⇒ false ∣ b ⇒ false ∣ true) ! false ⨾ (true ! false ⨾ d ⇒ false ∣ e ⇒ false ∣ f ⇒ false ∣ true))
unfolding ◌!◌⨾◌ ◌⇒◌∣◌
three_by true b c d e f = refl
three_by false true c d e f = refl
three_by false false true d e f = refl
three_by false false false d e f = refl

three_is : (a b c : List ℕ) → is_three (kind_of a) (kind_of b) (kind_of c) ≡ (waits1 a ! false ⨾ waits2 a b ! false ⨾ waits3 a b c)
unfolding is_three waits
three_is a b c =
    let i = kind_of a in
    let j = kind_of b in
    let k = kind_of c in
    three_by (eqb i 0) (eqb j 0) (eqb j i) (eqb k 0) (eqb k i) (eqb k j)

-- a block that waits is none of those that wait
others-of : (a b c d : Bool) → (a ! false ⨾ b ⇒ false ∣ c ⇒ false ∣ d ⇒ false ∣ true) ≡ true → (c ≡ false) × (d ≡ false)
unfolding ◌!◌⨾◌ ◌⇒◌∣◌
others-of false b c d e = absurd (true≢false (sym e))
others-of true true c d e = absurd (true≢false (sym e))
others-of true false true d e = absurd (true≢false (sym e))
others-of true false false true e = absurd (true≢false (sym e))
others-of true false false false e = (refl, refl)

pub waits_other : (w : Waiting) (k : ℕ) → waits w k ≡ true → (k ≡ w.first → ⊥) × (k ≡ w.second → ⊥)
unfolding waits
waits_other w k e =
    let o = others-of (eqb w.on 1) (eqb k 0) (eqb k w.first) (eqb k w.second) e in
    (eqb-false k w.first o.0, eqb-false k w.second o.1)

-- v is a, and of kind m
pub record Is (m : ℕ) (v a : List ℕ) : Type 0 where
  pub is : v ≡ a
  pub kind : kind_of a ≡ m

-- v, w and x are a, b and c in one of the six orders
pub data Six (a b c v w x : List ℕ) : Type 0 where
  abc : Is 1 v a → Is 2 w b → Is 3 x c → Six a b c v w x
  acb : Is 1 v a → Is 2 w c → Is 3 x b → Six a b c v w x
  bac : Is 1 v b → Is 2 w a → Is 3 x c → Six a b c v w x
  bca : Is 1 v b → Is 2 w c → Is 3 x a → Six a b c v w x
  cab : Is 1 v c → Is 2 w a → Is 3 x b → Six a b c v w x
  cba : Is 1 v c → Is 2 w b → Is 3 x a → Six a b c v w x

module _ (a b c : List ℕ) (m : ℕ) where
  in_a : kind_of a ≡ m → Is m (of_kind m a b c) a
  unfolding of_kind
  in_a e = record { is = sym (case_yes _ _ _ _ (eq-eqb _ m e) refl); kind = e }

  in_b : (kind_of b ≡ kind_of a → ⊥) → kind_of b ≡ m → Is m (of_kind m a b c) b
  unfolding of_kind
  in_b h e = record { is = sym (case_no _ _ _ _ (ne_eqb _ m (λ z. h (e ∙ sym z))) (case_yes _ _ _ _ (eq-eqb _ m e) refl)); kind = e }

  in_c : (kind_of c ≡ kind_of a → ⊥) → (kind_of c ≡ kind_of b → ⊥) → kind_of c ≡ m → Is m (of_kind m a b c) c
  unfolding of_kind
  in_c h g e =
      record { is = sym (case_no _ _ _ _ (ne_eqb _ m (λ z. h (e ∙ sym z))) (case_no _ _ _ _ (ne_eqb _ m (λ z. g (e ∙ sym z))) refl)); kind = e }

module _ (a b c : List ℕ) (ba : kind_of b ≡ kind_of a → ⊥) (ca : kind_of c ≡ kind_of a → ⊥) (cb : kind_of c ≡ kind_of b → ⊥) where
  of_six : {i j k : ℕ} → Which (kind_of a) i → Which (kind_of b) j → Which (kind_of c) k → Six a b c (of_kind 1 a b c) (of_kind 2 a b c) (of_kind 3 a b c)
  of_six (versions p q) (versions r t) z = absurd (ba (r ∙ sym p))
  of_six (channels p q) (channels r t) z = absurd (ba (r ∙ sym p))
  of_six (context p q) (context r t) z = absurd (ba (r ∙ sym p))
  of_six (versions p q) (channels r t) (versions u v) = absurd (ca (u ∙ sym p))
  of_six (versions p q) (channels r t) (channels u v) = absurd (cb (u ∙ sym r))
  of_six (versions p q) (channels r t) (context u v) = abc (in_a a b c 1 p) (in_b a b c 2 ba r) (in_c a b c 3 ca cb u)
  of_six (versions p q) (context r t) (versions u v) = absurd (ca (u ∙ sym p))
  of_six (versions p q) (context r t) (channels u v) = acb (in_a a b c 1 p) (in_c a b c 2 ca cb u) (in_b a b c 3 ba r)
  of_six (versions p q) (context r t) (context u v) = absurd (cb (u ∙ sym r))
  of_six (channels p q) (versions r t) (versions u v) = absurd (cb (u ∙ sym r))
  of_six (channels p q) (versions r t) (channels u v) = absurd (ca (u ∙ sym p))
  of_six (channels p q) (versions r t) (context u v) = bac (in_b a b c 1 ba r) (in_a a b c 2 p) (in_c a b c 3 ca cb u)
  of_six (channels p q) (context r t) (versions u v) = cab (in_c a b c 1 ca cb u) (in_a a b c 2 p) (in_b a b c 3 ba r)
  of_six (channels p q) (context r t) (channels u v) = absurd (ca (u ∙ sym p))
  of_six (channels p q) (context r t) (context u v) = absurd (cb (u ∙ sym r))
  of_six (context p q) (versions r t) (versions u v) = absurd (cb (u ∙ sym r))
  of_six (context p q) (versions r t) (channels u v) = bca (in_b a b c 1 ba r) (in_c a b c 2 ca cb u) (in_a a b c 3 p)
  of_six (context p q) (versions r t) (context u v) = absurd (ca (u ∙ sym p))
  of_six (context p q) (channels r t) (versions u v) = cba (in_c a b c 1 ca cb u) (in_b a b c 2 ba r) (in_a a b c 3 p)
  of_six (context p q) (channels r t) (channels u v) = absurd (cb (u ∙ sym r))
  of_six (context p q) (channels r t) (context u v) = absurd (ca (u ∙ sym p))

module _ (a b c : List ℕ) where
  pub waited_six : waits1 a ≡ true → waits2 a b ≡ true → waits3 a b c ≡ true → Six a b c (of_kind 1 a b c) (of_kind 2 a b c) (of_kind 3 a b c)
  waited_six p q r =
      let o = waits_other _ (kind_of c) r in
      of_six a b c (waits_other _ (kind_of b) q).0 o.0 o.1
      (kind_which a _ refl (waits_some _ _ p)) (kind_which b _ refl (waits_some _ _ q)) (kind_which c _ refl (waits_some _ _ r))

  pub is-group : (s : List ℕ) → is_sync s ≡ true → waits1 a ≡ true → waits2 a b ≡ true → waits3 a b c ≡ true → is_group s a b c ≡ true
  unfolding is_group
  is-group s e p q r = sym (passes _ _ _ _ e (passes _ _ _ _ p (passes _ _ _ _ q (sym r)) ∙ sym (three_is a b c)))

  group_six : (s : List ℕ) → is_group s a b c ≡ true → (is_sync s ≡ true) × Six a b c (of_kind 1 a b c) (of_kind 2 a b c) (of_kind 3 a b c)
  unfolding is_group
  group_six s e =
      let g = held _ _ _ _ true≢false (sym e) in
      let x = held _ _ _ _ true≢false (g.1 ∙ three_is a b c) in
      let y = held _ _ _ _ true≢false x.1 in
      (g.0, waited_six x.0 y.0 (sym y.1))

-- what holds of a, b and c with their kinds holds of v, w and x with 1, 2 and 3
is_so : {m : ℕ} {v a : List ℕ} (P : ℕ → List ℕ → Type 0) → Is m v a → P (kind_of a) a → P m v
is_so {m} {v} {a} P i h = subst (P m) (sym i.is) (subst (λ (k : ℕ). P k a) i.kind h)

pub all_so : {a b c v w x : List ℕ} (P : ℕ → List ℕ → Type 0) → Six a b c v w x → P (kind_of a) a → P (kind_of b) b → P (kind_of c) c → P 1 v × (P 2 w × P 3 x)
all_so P (abc p q r) f g h = (is_so P p f, (is_so P q g, is_so P r h))
all_so P (acb p q r) f g h = (is_so P p f, (is_so P q h, is_so P r g))
all_so P (bac p q r) f g h = (is_so P p g, (is_so P q f, is_so P r h))
all_so P (bca p q r) f g h = (is_so P p g, (is_so P q h, is_so P r f))
all_so P (cab p q r) f g h = (is_so P p h, (is_so P q f, is_so P r g))
all_so P (cba p q r) f g h = (is_so P p h, (is_so P q g, is_so P r f))

-- ---- one block stays where it is, or a group is put into order

stay : (s a b c : List ℕ) (rest : List (List ℕ)) → is_group s a b c ≡ false → blocks_on (s ∷ a ∷ b ∷ c ∷ rest) ≡ s ∷ blocks_on (a ∷ b ∷ c ∷ rest)
unfolding blocks_on
stay s a b c rest e = sym (fails _ _ _ _ e refl)

pub grouped : (s a b c : List ℕ) (rest : List (List ℕ)) → is_group s a b c ≡ true →
    blocks_on (s ∷ a ∷ b ∷ c ∷ rest) ≡ s ∷ of_kind 1 a b c ∷ of_kind 2 a b c ∷ of_kind 3 a b c ∷ blocks_on rest
unfolding blocks_on
grouped s a b c rest e = sym (passes _ _ _ _ e refl)

-- one that is no good sync
pub single : (s : List ℕ) (bs : List (List ℕ)) → is_sync s ≡ false → blocks_on (s ∷ bs) ≡ s ∷ blocks_on bs
unfolding blocks_on is_group
single s [] e = refl
single s (a ∷ []) e = refl
single s (a ∷ b ∷ []) e = refl
single s (a ∷ b ∷ c ∷ rest) e = sym (fails _ _ _ _ (sym (fails _ _ _ _ e refl)) refl)

no_group : (q : Bool) (t : Bool) → t ≡ false → (q ! false ⨾ t) ≡ false
unfolding ◌!◌⨾◌
no_group true t e = e
no_group false t e = refl

-- one behind which the three do not come
no_three : (s a b c : List ℕ) (rest : List (List ℕ)) → (waits1 a ! false ⨾ waits2 a b ! false ⨾ waits3 a b c) ≡ false →
    blocks_on (s ∷ a ∷ b ∷ c ∷ rest) ≡ s ∷ blocks_on (a ∷ b ∷ c ∷ rest)
unfolding is_group
no_three s a b c rest e = stay s a b c rest (no_group (is_sync s) _ (three_is a b c ∙ e))

pub first_none : (s a : List ℕ) (bs : List (List ℕ)) → waits1 a ≡ false → blocks_on (s ∷ a ∷ bs) ≡ s ∷ blocks_on (a ∷ bs)
unfolding blocks_on
first_none s a [] e = refl
first_none s a (b ∷ []) e = refl
first_none s a (b ∷ c ∷ rest) e = no_three s a b c rest (sym (fails _ _ _ _ e refl))

pub second_none : (s a b : List ℕ) (bs : List (List ℕ)) → waits2 a b ≡ false → blocks_on (s ∷ a ∷ b ∷ bs) ≡ s ∷ blocks_on (a ∷ b ∷ bs)
unfolding blocks_on
second_none s a b [] e = refl
second_none s a b (c ∷ rest) e = no_three s a b c rest (no_group (waits1 a) _ (sym (fails _ _ _ _ e refl)))

pub third_none : (s a b c : List ℕ) (rest : List (List ℕ)) → waits3 a b c ≡ false →
    blocks_on (s ∷ a ∷ b ∷ c ∷ rest) ≡ s ∷ blocks_on (a ∷ b ∷ c ∷ rest)
third_none s a b c rest e = no_three s a b c rest (no_group (waits1 a) _ (no_group (waits2 a b) _ e))

-- ---- the blocks that came, in some order

same_three : {a b c v w x : List ℕ} (rest : List (List ℕ)) → Six a b c v w x → Perm (v ∷ w ∷ x ∷ rest) (a ∷ b ∷ c ∷ rest)
same_three {a} {b} {c} rest (abc p q r) = rw (p.is, q.is, r.is) (Perm.refl (a ∷ b ∷ c ∷ rest))
same_three {a} {b} {c} rest (acb p q r) = rw (p.is, q.is, r.is) (Perm.cons a (Perm.swap b c rest))
same_three {a} {b} {c} rest (bac p q r) = rw (p.is, q.is, r.is) (Perm.swap a b (c ∷ rest))
same_three {a} {b} {c} rest (bca p q r) = rw (p.is, q.is, r.is) (Perm.trans (Perm.cons b (Perm.swap a c rest)) (Perm.swap a b (c ∷ rest)))
same_three {a} {b} {c} rest (cab p q r) = rw (p.is, q.is, r.is) (Perm.trans (Perm.swap a c (b ∷ rest)) (Perm.cons a (Perm.swap b c rest)))
same_three {a} {b} {c} rest (cba p q r) =
    rw (p.is, q.is, r.is) (Perm.trans (Perm.cons c (Perm.swap a b rest)) (Perm.trans (Perm.swap a c (b ∷ rest)) (Perm.cons a (Perm.swap b c rest))))

same_by : (s a b c : List ℕ) (rest : List (List ℕ)) (q : Bool) → is_group s a b c ≡ q → Perm (blocks_on (a ∷ b ∷ c ∷ rest)) (a ∷ b ∷ c ∷ rest) →
    Perm (blocks_on rest) rest → Perm (blocks_on (s ∷ a ∷ b ∷ c ∷ rest)) (s ∷ a ∷ b ∷ c ∷ rest)
unfolding blocks_on ◌!◌⨾◌
same_by s a b c rest true e f g =
    let h = (group_six a b c s e).1 in
    rw e (Perm.cons s (Perm.trans (Perm.cons _ (Perm.cons _ (Perm.cons _ g))) (same_three rest h)))
same_by s a b c rest false e f g = rw e (Perm.cons s f)

pub same_blocks : (bs : List (List ℕ)) → Perm (blocks_on bs) bs
unfolding blocks_on
same_blocks [] = Perm.refl []
same_blocks (s ∷ []) = Perm.refl (s ∷ [])
same_blocks (s ∷ a ∷ []) = Perm.refl (s ∷ a ∷ [])
same_blocks (s ∷ a ∷ b ∷ []) = Perm.refl (s ∷ a ∷ b ∷ [])
same_blocks (s ∷ a ∷ b ∷ c ∷ rest) = same_by s a b c rest _ refl (same_blocks (a ∷ b ∷ c ∷ rest)) (same_blocks rest)

-- ---- and again

-- the first block stays the first
first_by : (q : Bool) (s : List ℕ) (xs ys : List (List ℕ)) → (zs : List (List ℕ)) × ((q ! (s ∷ xs) ⨾ (s ∷ ys)) ≡ s ∷ zs)
unfolding ◌!◌⨾◌
first_by true s xs ys = (ys, refl)
first_by false s xs ys = (xs, refl)

first_stays : (s : List ℕ) (bs : List (List ℕ)) → (zs : List (List ℕ)) × (blocks_on (s ∷ bs) ≡ s ∷ zs)
unfolding blocks_on
first_stays s [] = ([], refl)
first_stays s (a ∷ []) = (a ∷ [], refl)
first_stays s (a ∷ b ∷ []) = (a ∷ b ∷ [], refl)
first_stays s (a ∷ b ∷ c ∷ rest) = first_by (is_group s a b c) s _ _

none_waits : (w : Waiting) (k : ℕ) (q : Bool) → waits w k ≡ q → k ≡ 0 → waits w k ≡ false
none_waits w k true e z = absurd (waits_some w k e z)
none_waits w k false e z = e

sync_waits : (w : Waiting) (b : List ℕ) → is_sync b ≡ true → waits w (kind_of b) ≡ false
sync_waits w b e = none_waits w (kind_of b) _ refl (sync_kind b e)

-- where the three do not come, they do not come in what goes on either: up to the next good sync it is the same
abbrev Stays : List ℕ → List (List ℕ) → Type 0
Stays s bs = blocks_on (s ∷ bs) ≡ s ∷ blocks_on bs

stays : (s a b c : List ℕ) (rest : List (List ℕ)) (p q : Bool) → is_group s a b c ≡ false → is_sync a ≡ p → is_sync b ≡ q → Stays s
    (blocks_on (a ∷ b ∷ c ∷ rest))
stays s a b c rest true q e f g =
    let h = first_stays a (b ∷ c ∷ rest) in
    subst (Stays s) (sym h.1) (first_none s a h.0 (sync_waits _ a f))
stays s a b c rest false true e f g =
    let h = first_stays b (c ∷ rest) in
    subst (Stays s) (sym (single a (b ∷ c ∷ rest) f ∙ ap (λ z. a ∷ z) h.1)) (second_none s a b h.0 (sync_waits _ b g))
stays s a b c rest false false e f g =
    let h = first_stays c rest in
    subst (Stays s) (sym (single a (b ∷ c ∷ rest) f ∙ ap (λ z. a ∷ z) (single b (c ∷ rest) g ∙ ap (λ z. b ∷ z) h.1))) (stay s a b c h.0 e)

-- a group in 01's order is kept
in_order : (s v w x : List ℕ) (rest : List (List ℕ)) → is_sync s ≡ true → kind_of v ≡ 1 → kind_of w ≡ 2 → kind_of x ≡ 3 →
    blocks_on (s ∷ v ∷ w ∷ x ∷ rest) ≡ s ∷ v ∷ w ∷ x ∷ blocks_on rest
unfolding blocks_on is_group is_three of_kind ◌!◌⨾◌ ◌⇒◌∣◌
in_order s v w x rest e i j k = rw (e, i, j, k) refl

again_by : (s a b c : List ℕ) (rest : List (List ℕ)) (q : Bool) → is_group s a b c ≡ q →
    blocks_on (blocks_on (a ∷ b ∷ c ∷ rest)) ≡ blocks_on (a ∷ b ∷ c ∷ rest) → blocks_on (blocks_on rest) ≡ blocks_on rest →
    blocks_on (blocks_on (s ∷ a ∷ b ∷ c ∷ rest)) ≡ blocks_on (s ∷ a ∷ b ∷ c ∷ rest)
again_by s a b c rest true e f g =
    let h = group_six a b c s e in
    let k = all_so (λ m v. kind_of v ≡ m) h.1 refl refl refl in
    let o : blocks_on (s ∷ a ∷ b ∷ c ∷ rest) ≡ s ∷ of_kind 1 a b c ∷ of_kind 2 a b c ∷ of_kind 3 a b c ∷ blocks_on rest = grouped s a b c rest e in
    ap blocks_on o ∙ (in_order s _ _ _ (blocks_on rest) h.0 k.0 k.1.0 k.1.1 ∙
    (ap (λ z. s ∷ of_kind 1 a b c ∷ of_kind 2 a b c ∷ of_kind 3 a b c ∷ z) g ∙ sym o))
again_by s a b c rest false e f g =
    let o = stay s a b c rest e in
    ap blocks_on o ∙ (stays s a b c rest _ _ e refl refl ∙ (ap (λ z. s ∷ z) f ∙ sym o))

pub twice_once : (bs : List (List ℕ)) → blocks_on (blocks_on bs) ≡ blocks_on bs
unfolding blocks_on
twice_once [] = refl
twice_once (s ∷ []) = refl
twice_once (s ∷ a ∷ []) = refl
twice_once (s ∷ a ∷ b ∷ []) = refl
twice_once (s ∷ a ∷ b ∷ c ∷ rest) = again_by s a b c rest _ refl (twice_once (a ∷ b ∷ c ∷ rest)) (twice_once rest)
