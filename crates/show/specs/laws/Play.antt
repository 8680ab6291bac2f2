-- The steps of a stream that is shown, in the forms that the code has. Every law is over either word size.
use Rattle.std.specs.Prelude.{◌≡◌, ℕ, ◌-◌, ◌/◌, ◌≤◌, Bool, true, false, List, [], length, drop, ◌≢◌, nat_le}
use Rattle.std.proofs.Math.Path.{refl, ap}
use Rattle.std.proofs.Common.{sym, subst, ◌∙◌, arith, eq-eqb, ne_eqb, le-leb}
use Rattle.whole.specs.Row.{◌⇒◌∣◌}
use Rattle.whole.specs.laws.Row.{fails, passes, case_yes, case_no}
use Rattle.session.specs.declared.Session.{Session}
use Rattle.collect.specs.Collect.{HandOver, state, said, collect_of}
use Rattle.wire.specs.declared.Refusal.{Refusal}
use Rattle.collect.specs.declared.Collector.{Collector}
use Rattle.collect.specs.declared.Collected.{Collected}
use Rattle.collect.specs.declared.Collected.TheVariants.{More, Header, Frame, Refused}
use Rattle.collect.specs.declared.Took.{Took}
use Rattle.app_text.specs.First.{first_of}
use Rattle.app_calls.specs.declared.given.Desk.{Desk}
use Rattle.app_calls.specs.Calls.{header_left}
use Rattle.app_calls.specs.Given.{moved, header_desk, frame_desk, desk_part, Scene, scene}
use Rattle.show.specs.Play.{placed, foreign_of, anew_desk, settled_desk, frame_drawn, drawn, taken, played}
use Rattle.show.specs.Play.{Shown, none, read, more, anew, ShownTo, Filled, same, next, Given, Handed}

-- ---- the piece

pub first_none : (piece : List ℕ) (n : ℕ) → n ≡ 0 → [] ≡ first_of piece n
unfolding first_of
first_none piece n e = rw e (passes _ _ _ _ (le-leb 0 (length piece) (omega arith)) refl)

pub fill_next :
    (d e : Desk) (piece bytes new : List ℕ) (k : ℕ) → bytes ≡ piece → k ≡ length bytes → k ≤ d.at → e ≡ placed d (d.at - k) → Filled d piece e new
fill_next d e piece bytes new k f g h is =
    let l : k ≡ length piece = g ∙ ap length f in
    subst (λ (x : Desk). Filled d piece x new) (sym (is ∙ ap (λ (j : ℕ). placed d (d.at - j)) l)) (next new (subst (λ (j : ℕ). j ≤ d.at) l h))

-- ---- a head that can be passed over, and the desk behind it

pub foreign_not : (c : Collector) → (c.refused ≢ 3) → false ≡ foreign_of c
unfolding foreign_of
foreign_not c h = fails _ _ _ _ (ne_eqb c.refused 3 h) refl

pub foreign_is : (c : Collector) → c.refused ≡ 3 → nat_le 6 (c.head / 65536) ≡ foreign_of c
unfolding foreign_of
foreign_is c h = passes _ _ _ _ (eq-eqb c.refused 3 h) refl

pub settle_anew : (e d : Desk) (t : Bool) → d ≡ anew_desk e → t ≡ foreign_of e.c → t ≡ true → d ≡ settled_desk e
settle_anew e d t h f k = case_yes _ _ _ _ (sym f ∙ k) h

pub settle_same : (e : Desk) (t : Bool) → t ≡ foreign_of e.c → t ≡ false → e ≡ settled_desk e
settle_same e t f k = case_no _ _ _ _ (sym f ∙ k) refl

-- ---- the four ways of a part: the desk, and the picture

module _ (store : List ℕ) (a : Collected) where
  pub desk_more : (d : Desk) → a ≡ More → d ≡ desk_part store d a
  unfolding desk_part
  desk_more d e = ap (desk_part store d) (sym e)

  pub desk_refused : (d : Desk) (k : Refusal) → a ≡ Refused k → d ≡ desk_part store d a
  unfolding desk_part
  desk_refused d k e = ap (desk_part store d) (sym e)

  pub desk_header : (d r : Desk) (k : ℕ) (m : List ℕ) → a ≡ Header k → m ≡ first_of store k → r ≡ header_desk d (header_left d.s m) → r ≡ desk_part store d a
  unfolding desk_part
  desk_header d r k m e is f = f ∙ (ap (λ (x : List ℕ). header_desk d (header_left d.s x)) is ∙ ap (desk_part store d) (sym e))

  pub desk_frame : (d r : Desk) (k : ℕ) → a ≡ Frame k → r ≡ frame_desk d → r ≡ desk_part store d a
  unfolding desk_part
  desk_frame d r k e f = f ∙ ap (desk_part store d) (sym e)

  module _ (word : ℕ) (s : Session) (pic : List ℕ) where
    way : (b : Collected) (pic' : List ℕ) → a ≡ b → pic' ≡ drawn word store s b pic → pic' ≡ drawn word store s a pic
    way b pic' e f = f ∙ ap (λ (x : Collected). drawn word store s x pic) (sym e)

    pub drawn_more : a ≡ More → pic ≡ drawn word store s a pic
    unfolding drawn
    drawn_more e = way More pic e refl

    pub drawn_header : (k : ℕ) → a ≡ Header k → pic ≡ drawn word store s a pic
    unfolding drawn
    drawn_header k e = way (Header k) pic e refl

    pub drawn_refused : (k : Refusal) → a ≡ Refused k → pic ≡ drawn word store s a pic
    unfolding drawn
    drawn_refused k e = way (Refused k) pic e refl

    -- all but a frame
    pub drawn_other : ((k : ℕ) → a ≡ Frame k → ⊥) → pic ≡ drawn word store s a pic
    drawn_other n = other a refl
      where
        other : (b : Collected) → a ≡ b → pic ≡ drawn word store s a pic
        other More e = drawn_more e
        other (Header k) e = drawn_header k e
        other (Frame k) e = absurd (n k e)
        other (Refused k) e = drawn_refused k e

    pub drawn_frame : (k : ℕ) (m pic' : List ℕ) → a ≡ Frame k → m ≡ first_of store k → pic' ≡ frame_drawn word s m pic → pic' ≡ drawn word store s a pic
    unfolding drawn
    drawn_frame k m pic' e is f = way (Frame k) pic' e (f ∙ ap (λ (x : List ℕ). frame_drawn word s x pic) is)

-- ---- a hand-over

pub given_is :
    (d e f r : Desk) (bytes store store' : List ℕ) (t : Took)
    → said t store' ≡ collect_of (state d.c store) bytes
    → e ≡ moved d t.collector t.taken
    → f ≡ desk_part store' e t.answer
    → r ≡ settled_desk f
    → Given d bytes store store' r t.answer
given_is d e f r bytes store store' t is a b g =
    let q : f ≡ played d (said t store') = b ∙ ap (λ (x : Desk). desk_part store' x t.answer) a in
    record {
      desk = g ∙ ap settled_desk (q ∙ ap (played d) is);
      left = ap (λ (x : HandOver). x.step.state.store) is;
      answer = ap (λ (x : HandOver). x.step.answer) is;
    }

pub handed_is :
    (d from r : Desk) (piece p x bytes store store' : List ℕ) (n m : ℕ) (a : Collected)
    → Filled d piece from (first_of p n)
    → x ≡ first_of p n
    → bytes ≡ drop from.at x
    → Given from bytes store store' r a
    → m ≡ n
    → Handed d piece store (first_of p m) store' r a
handed_is d from r piece p x bytes store store' n m a f e h g k =
    subst (λ (j : ℕ). Handed d piece store (first_of p j) store' r a) (sym k)
    (record { from = from; filled = f; given = subst (λ (y : List ℕ). Given from y store store' r a) (h ∙ ap (drop from.at) e) g })

-- ---- a turn: the piece is filled, what is left of it handed over, the part drawn

module _ (word : ℕ) (s : Scene) where
  filled_on :
      (d e : Desk) (piece piece' store pic : List ℕ)
      → Shown word s (scene d store pic) piece
      → Filled d piece e piece'
      → Shown word s (scene e store pic) piece'
  filled_on d e piece piece' store pic p f = go piece e piece' p f
    where
      go :
          (piece : List ℕ) (e : Desk) (piece' : List ℕ)
          → Shown word s (scene d store pic) piece
          → Filled d piece e piece'
          → Shown word s (scene e store pic) piece'
      go piece _ _ p same = p
      go piece _ _ p (next new h) = read (scene d store pic) piece new p h

  settled_on :
      (e : Desk) (piece store pic : List ℕ) → Shown word s (scene e store pic) piece → Shown word s (scene (settled_desk e) store pic) piece
  unfolding ◌⇒◌∣◌
  settled_on e piece store pic p = go (foreign_of e.c) refl
    where
      go : (t : Bool) → foreign_of e.c ≡ t → Shown word s (scene (t ⇒ anew_desk e ∣ e) store pic) piece
      go true h = anew (scene e store pic) piece p h
      go false h = p

  -- the record is the same
  record_same : (e : Desk) → (settled_desk e).s ≡ e.s
  unfolding ◌⇒◌∣◌ anew_desk
  record_same e = go (foreign_of e.c)
    where
      go : (t : Bool) → (t ⇒ anew_desk e ∣ e).s ≡ e.s
      go true = refl
      go false = refl

  pub turn_is :
      (d r : Desk) (a : Collected) (piece piece' store store' pic pic' : List ℕ)
      → Shown word s (scene d store pic) piece
      → Handed d piece store piece' store' r a
      → pic' ≡ drawn word store' r.s a pic
      → Shown word s (scene r store' pic') piece'
  turn_is d r a piece piece' store store' pic pic' p h f =
      let g = h.given in
      let k = taken h.from (drop h.from.at piece') store in
      let e = played h.from k in
      let q = settled_on e piece' _ _ (more (scene h.from store pic) piece' (filled_on d h.from piece piece' store pic p h.filled)) in
      let same-record : r.s ≡ e.s = ap (λ (x : Desk). x.s) g.desk ∙ record_same e in
      let same_picture : pic' ≡ drawn word k.step.state.store e.s k.step.answer pic = f ∙ cc (g.left, g.answer, same-record) in
      let same-scene : scene r store' pic' ≡ scene (settled_desk e) k.step.state.store (drawn word k.step.state.store e.s k.step.answer pic)
      = cc (g.desk, g.left, same_picture) in
      subst (λ (x : Scene). Shown word s x piece') (sym same-scene) q

-- before the first piece, and at the end
pub shown_start : (word : ℕ) (d : Desk) (store pic piece : List ℕ) (n : ℕ) → n ≡ 0 → Shown word (scene d store pic) (scene d store pic) (first_of piece n)
shown_start word d store pic piece n z = subst (Shown word (scene d store pic) (scene d store pic)) (first_none piece n z) none

pub shown_end :
    (word : ℕ) (d e : Desk) (store pic piece : List ℕ) (t : Scene) → e ≡ d → Shown word (scene e store pic) t piece → ShownTo word (scene d store pic) t
shown_end word d e store pic piece t f p =
    record { piece = piece; shown = subst (λ (x : Desk). Shown word (scene x store pic) t piece) f p }
