-- Laws of the frame call: what a passed check gives, how the message's first fault is put together, and the three ways out.
use Rattle.std.specs.Prelude.{ℕ, zero, suc, ◌+◌, ◌*◌, ◌≤◌, ◌≡◌, refl, true, false, List, ℤ, pos, length, replicate, eqb, leb, Ok, Err}
use Rattle.std.proofs.Math.Path.{sym, ap}
use Rattle.std.proofs.Common.{subst, ◌∙◌, true≢false, arith}
use borrow.Author.Tests.{eqb-true, leb-true, eq-eqb, ne_eqb}
use Rattle.whole.specs.Row.{◌⨟◌}
use Rattle.whole.specs.laws.Row.{held, both, stops, goes_on, passes, fails, case_yes, case_no, ne_is}
use Rattle.wire.specs.Refusal.{refusal_number, refusal_of}
use Rattle.wire.specs.laws.Refusal.{number_pos, refusal_back}
use Rattle.wire.specs.declared.Refusal.{Refusal}
use Rattle.frame_layout.specs.Reader.{begin_fault, region_fault, end_fault, frame_fault, tiles_fault, size_at, set_place, end_place, quant_count, set_at}
use Rattle.frame_layout.specs.Reader.{rect_count}
use Rattle.frame_layout.specs.Reader.{tile_count, data_of, tiles_in, frame_tiles}
use Rattle.frame_blocks.specs.Blocks.{set_front, rects_of, RegionGood}
use Rattle.frame_blocks.specs.laws.Blocks.{begin_good, region_good}
use Rattle.frame_blocks.specs.Judged.{judged, in_set, SetSound}
use Rattle.frame_blocks.specs.laws.Judged.{set_sound, set-fault}
use Rattle.frame_draw.specs.declared.tiles.Pass.{Pass}
use Rattle.frame_draw.specs.Shown.{tiles_drawn}
use Rattle.frame_draw.specs.Show.{Lists, tile_word}
use Rattle.session.specs.Header.{ready}
use Rattle.session.specs.declared.Session.{Session}
use Rattle.frame.specs.Frame.{full, call_fault, early, front_fault, framed, frame_number, frame_picture, frame_list, Cleared, frame_reading, pass_of}
use Rattle.frame.specs.Frame.{FrameJudged, FrameRead}

not_0 : (k : ℕ) → 0 ≡ suc k → ⊥
not_0 k e = omega arith

-- ---- before the message

full_is : (y cb cr tmp : List ℤ) → full (length y) (length cb) (length cr) (length tmp) ≡ true → Lists y cb cr tmp
unfolding full
full_is y cb cr tmp e =
    let a = held (eqb (length y) 4096) false _ true true≢false (sym e) in
    let b = held (eqb (length cb) 4096) false _ true true≢false a.1 in
    let c = held (eqb (length cr) 4096) false _ true true≢false b.1 in
    record {
      y_len = eqb-true (length y) 4096 a.0;
      cb_len = eqb-true (length cb) 4096 b.0;
      cr_len = eqb-true (length cr) 4096 c.0;
      tmp_len = eqb-true (length tmp) 4096 (sym c.1);
    }

-- what a call has that is neither 12 nor 2 before the message
pub record CallGood (word : ℕ) (s : Session) (p : ℕ) (y cb cr tmp : List ℤ) : Type 0 where
  pub is-ready : ready s ≡ true
  pub lists : Lists y cb cr tmp
  pub glass : word ≡ s.glass
  pub room : s.height * s.width ≤ p

pub call_good :
    (word : ℕ) (s : Session) (p : ℕ) (y cb cr tmp : List ℤ) → 0 ≡ call_fault word s p (length y) (length cb) (length cr) (length tmp) →
    CallGood word s p y cb cr tmp
unfolding call_fault
call_good word s p y cb cr tmp e =
    let a = held (ready s) 12 _ 0 (not_0 11) e in
    let b = held (full (length y) (length cb) (length cr) (length tmp)) 2 _ 0 (not_0 1) a.1 in
    let g = held (eqb word s.glass) 2 _ 0 (not_0 1) b.1 in
    let c = held (leb (s.height * s.width) p) 2 _ 0 (not_0 1) g.1 in
    record { is-ready = a.0; lists = full_is y cb cr tmp b.0; glass = eqb-true word s.glass g.0; room = leb-true (s.height * s.width) p c.0 }

-- a record that is not ready is 12, whatever is lent
pub call_unready : (word : ℕ) (s : Session) (p a b c t : ℕ) → ready s ≡ false → 12 ≡ call_fault word s p a b c t
unfolding call_fault
call_unready word s p a b c t e = fails _ _ _ _ e refl

-- ---- the message

-- the tileset lies behind a checked region
pub set-place : (m : List ℕ) → RegionGood m 14 → set_place m ≤ length m
unfolding set_place
set-place m g = g.there

-- what a message has whose front was checked
pub record FrontGood (m : List ℕ) : Type 0 where
  pub region : RegionGood m 14
  pub set : SetSound m (set_place m)

pub front_good : (et : ℕ) (m : List ℕ) → 0 ≡ front_fault et m → FrontGood m
unfolding front_fault
front_good et m e =
    let a = both (begin_fault m 0) _ e in
    let b = both (region_fault m 14) _ a.1 in
    let r = region_good m 14 (begin_good m a.0) b.0 in
    record { region = r; set = set_sound et m (set_place m) (set-place m r) b.1 }

regroup : (b r s t e : ℕ) → (b ⨟ (r ⨟ ((s ⨟ t) ⨟ e))) ≡ ((b ⨟ (r ⨟ s)) ⨟ (t ⨟ e))
unfolding ◌⨟◌
regroup zero zero zero t e = refl
regroup zero zero (suc s) t e = refl
regroup zero (suc r) s t e = refl
regroup (suc b) r s t e = refl

-- the tiles of the message's tileset
abbrev pub all_tiles : ℕ → ℕ → ℕ → List ℕ → ℕ
all_tiles w h et m = tiles_fault (in_set et m (set_place m)) w h (quant_count m (set_place m)) (data_of m (set_place m)) (tile_count m (set_place m)) 0

-- the front, then the tiles, then the end
pub frame_parts : (w h et : ℕ) (m : List ℕ) → frame_fault judged w h et m ≡ (front_fault et m ⨟ (all_tiles w h et m ⨟ end_fault m (end_place m)))
unfolding frame_fault front_fault
frame_parts w h et m =
    ap (λ (z : ℕ). begin_fault m 0 ⨟ (region_fault m 14 ⨟ (z ⨟ end_fault m (end_place m)))) (set-fault w h et m (set_place m))
    ∙ regroup (begin_fault m 0) (region_fault m 14) (set_front et m (set_place m)) (all_tiles w h et m) (end_fault m (end_place m))

-- what a message without a fault has
pub record MessageGood (w h et : ℕ) (m : List ℕ) : Type 0 where
  pub front : FrontGood m
  pub tiles : 0 ≡ all_tiles w h et m

pub message_good : (w h et : ℕ) (m : List ℕ) → 0 ≡ frame_fault judged w h et m → MessageGood w h et m
message_good w h et m e =
    let a = both (front_fault et m) (all_tiles w h et m ⨟ end_fault m (end_place m)) (e ∙ frame_parts w h et m) in
    let b = both (all_tiles w h et m) (end_fault m (end_place m)) a.1 in
    record { front = front_good et m a.0; tiles = b.0 }

-- ---- the three ways out

answer_refused : (n : ℕ) (e : Refusal) (m : List ℕ) → refusal_number e ≡ n → Err e ≡ frame_reading n m
unfolding frame_reading
answer_refused n e m h = case_no _ _ _ _ (ne_is h refl (number_pos e)) (ap Err (sym (refusal_back e) ∙ ap refusal_of h))

answer_done : (n k : ℕ) (m : List ℕ) → n ≡ 0 → k ≡ tile_count m (set_place m) → Ok k ≡ frame_reading n m
unfolding frame_reading
answer_done n k m e h = case_yes _ _ _ _ (eq-eqb n 0 e) (ap Ok h)

-- a record and lists without a fault: the number is the message's, and each list is cleared
pub number_onward : (f : ℕ) (s : Session) (m : List ℕ) → f ≡ 0 → frame_number f s m ≡ frame_fault judged s.width s.height s.mode m
unfolding frame_number
number_onward f s m k = sym (goes_on _ _ _ k refl)

pub list_onward : (f : ℕ) (xs : List ℤ) → f ≡ 0 → frame_list f xs ≡ replicate 4096 (pos 0)
unfolding frame_list
list_onward f xs k = sym (passes _ _ _ _ (eq-eqb f 0 k) refl)

-- what is judged before the picture is touched
module _ (word : ℕ) (s : Session) (p : ℕ) (m : List ℕ) (y cb cr tmp : List ℤ) (f : ℕ)
    (e : f ≡ call_fault word s p (length y) (length cb) (length cr) (length tmp)) where
  -- 12 or 2: nothing was touched
  pub judged_early : (f ≡ 0 → ⊥) → FrameJudged word s p m y cb cr tmp y cb cr tmp f
  unfolding frame_number frame_list
  judged_early k =
      let z = ne_eqb _ 0 (λ x. k (e ∙ x)) in
      record {
        number = stops _ _ _ (λ z. k (e ∙ z)) e;
        y_left = λ n. fails _ _ _ _ z refl;
        cb_left = λ n. fails _ _ _ _ z refl;
        cr_left = λ n. fails _ _ _ _ z refl;
        tmp_left = λ n. fails _ _ _ _ z refl;
      }

  module _ (k : f ≡ 0) (y' cb' cr' tmp' : List ℤ) (g : ℕ) (q : g ≡ frame_fault judged s.width s.height s.mode m) where
    -- a fault of the message: the lists are cleared
    pub judged_refused : Cleared y' cb' cr' tmp' → FrameJudged word s p m y cb cr tmp y' cb' cr' tmp' g
    judged_refused c =
        let z = sym e ∙ k in
        record {
          number = q ∙ sym (number_onward _ s m z);
          y_left = λ n. c.y_is ∙ sym (list_onward _ y z);
          cb_left = λ n. c.cb_is ∙ sym (list_onward _ cb z);
          cr_left = λ n. c.cr_is ∙ sym (list_onward _ cr z);
          tmp_left = λ n. c.tmp_is ∙ sym (list_onward _ tmp z);
        }

    -- none
    pub judged_fine : g ≡ 0 → FrameJudged word s p m y cb cr tmp y' cb' cr' tmp' 0
    judged_fine z =
        record {
          number = sym z ∙ (q ∙ sym (number_onward _ s m (sym e ∙ k)));
          y_left = λ n. absurd (n refl);
          cb_left = λ n. absurd (n refl);
          cr_left = λ n. absurd (n refl);
          tmp_left = λ n. absurd (n refl);
        }

-- the whole call, over a picture of either word size
module _ (word : ℕ) (s : Session) (m pic : List ℕ) (y cb cr tmp y' cb' cr' tmp' : List ℤ) (n : ℕ)
    (j : FrameJudged word s (length pic) m y cb cr tmp y' cb' cr' tmp' n) where
  before : ℕ
  before = early word s pic y cb cr tmp

  number : ℕ
  number = frame_number before s m

  is_number : n ≡ number
  unfolding number before
  is_number = j.number

  -- a refusal: the picture is as it was
  pub frame_refused : (e : Refusal) → refusal_number e ≡ n → FrameRead word s m pic y cb cr tmp pic y' cb' cr' tmp' (Err e)
  unfolding number before frame_picture
  frame_refused e h =
      let k : n ≡ 0 → ⊥ = λ z. number_pos e (h ∙ z) in
      record {
        answer = answer_refused _ e m (h ∙ is_number);
        picture = fails _ _ _ _ (ne_eqb number 0 (λ x. k (is_number ∙ x))) refl;
        y_list = j.y_left k;
        cb_list = j.cb_left k;
        cr_list = j.cr_left k;
        tmp_list = j.tmp_left k;
      }

  -- none: what the draw pass asks for
  module _ (z : n ≡ 0) where
    parts : (0 ≡ before) × (0 ≡ frame_fault judged s.width s.height s.mode m)
    unfolding number before frame_number
    parts = both before (frame_fault judged s.width s.height s.mode m) (sym z ∙ is_number)

    pub frame-call : CallGood word s (length pic) y cb cr tmp
    unfolding before
    frame-call = call_good word s (length pic) y cb cr tmp parts.0

    pub frame_message : 0 ≡ frame_fault judged s.width s.height s.mode m
    frame_message = parts.1

    -- done: the frame is drawn, the lists are cleared
    pub frame_done :
        (pic' : List ℕ) (y'' cb'' cr'' tmp'' : List ℤ) (k : ℕ) → pic' ≡ framed word s.mode s.width s.height m pic → Cleared y'' cb'' cr'' tmp'' →
        k ≡ tile_count m (set_place m) → FrameRead word s m pic y cb cr tmp pic' y'' cb'' cr'' tmp'' (Ok k)
    unfolding number before frame_picture frame_list
    frame_done pic' y'' cb'' cr'' tmp'' k p c t =
        let d : pic' ≡ framed s.glass s.mode s.width s.height m pic =
        p ∙ ap (λ (g : ℕ). framed g s.mode s.width s.height m pic) frame-call.glass in
        let passed = eq-eqb before 0 (sym parts.0) in
        record {
          answer = answer_done _ _ m (sym is_number ∙ z) t;
          picture = passes _ _ _ _ (eq-eqb number 0 (sym is_number ∙ z)) d;
          y_list = passes _ _ _ _ passed c.y_is;
          cb_list = passes _ _ _ _ passed c.cb_is;
          cr_list = passes _ _ _ _ passed c.cr_is;
          tmp_list = passes _ _ _ _ passed c.tmp_is;
        }

-- the check pass by its calls: the tiles' fault or the end's, behind a front without a fault
module _ (w h et : ℕ) (m : List ℕ) (f : ℕ) (ef : f ≡ front_fault et m) where
  pub check_front : (f ≡ 0 → ⊥) → f ≡ frame_fault judged w h et m
  check_front k = stops _ _ _ (λ z. k (ef ∙ z)) ef ∙ sym (frame_parts w h et m)

  module _ (z : f ≡ 0) (size : ℕ) (es : size ≡ size_at m 14) where
    place_is : 14 + size ≡ set_place m
    unfolding set_place
    place_is = ap (λ (k : ℕ). 14 + k) es

    pub set_there : SetSound m (14 + size)
    set_there = subst (SetSound m) (sym place_is) (front_good et m (sym z ∙ ef)).set

    module _ (g : ℕ) (eg : g ≡ tiles_fault (in_set et m (14 + size)) w h (quant_count m (14 + size)) (data_of m (14 + size)) (tile_count m (14 + size)) 0) where
      tiles_are : g ≡ all_tiles w h et m
      tiles_are = eg ∙ ap (λ (k : ℕ). tiles_fault (in_set et m k) w h (quant_count m k) (data_of m k) (tile_count m k) 0) place_is

      pub check_tiles : (g ≡ 0 → ⊥) → g ≡ frame_fault judged w h et m
      check_tiles k = goes_on _ _ _ (sym ef ∙ z) (stops _ _ _ (λ x. k (tiles_are ∙ x)) tiles_are) ∙ sym (frame_parts w h et m)

      pub check_end : g ≡ 0 → (last r : ℕ) → last ≡ size_at m (14 + size) → r ≡ end_fault m (14 + size + last) → r ≡ frame_fault judged w h et m
      unfolding end_place
      check_end k last r el er =
          let p : 14 + size + last ≡ set_place m + size_at m (set_place m) = ap (λ (x : ℕ). 14 + size + x) el ∙ ap (λ (x : ℕ). x + size_at m x) place_is in
          goes_on _ _ _ (sym ef ∙ z) (goes_on _ _ _ (sym tiles_are ∙ k) (er ∙ ap (end_fault m) p)) ∙ sym (frame_parts w h et m)

-- ---- the draw pass, of a message without a fault

pub pass_is : (s : Session) (m : List ℕ) (size : ℕ) → size ≡ size_at m 14 → record { mode = s.mode; w = s.width; h = s.height; sp = 14 + size } ≡ pass_of s m
unfolding set_place
pass_is s m size e = rw e

-- a pass with those numbers shows the frame
pub pass_shown :
    (glass : ℕ) (s : Session) (m : List ℕ) (p : Pass) (pic pic' : List ℕ) → p ≡ pass_of s m →
    pic' ≡ tiles_drawn (rects_of m 14) (rect_count m 14) (tile_word glass p.mode (set_at m p.sp)) p.w p.h
    (tiles_in (data_of m p.sp) (tile_count m p.sp) 0) pic →
    pic' ≡ framed glass s.mode s.width s.height m pic
unfolding framed frame_tiles
pass_shown glass s m p pic pic' e d =
    d
    ∙ ap (λ (q : Pass).
    tiles_drawn (rects_of m 14) (rect_count m 14) (tile_word glass q.mode (set_at m q.sp)) q.w q.h
    (tiles_in (data_of m q.sp) (tile_count m q.sp) 0) pic) e

pub pass_room : (s : Session) (m : List ℕ) (p : Pass) (n : ℕ) → p ≡ pass_of s m → s.height * s.width ≤ n → p.h * p.w ≤ n
pass_room s m p n e l = subst (λ (q : Pass). q.h * q.w ≤ n) (sym e) l

pub pass_count : (s : Session) (m : List ℕ) (p : Pass) (n : ℕ) → p ≡ pass_of s m → n ≡ tile_count m p.sp → n ≡ tile_count m (set_place m)
pass_count s m p n e f = f ∙ ap (λ (q : Pass). tile_count m q.sp) e

-- what it asks for
pub record PassGood (p : Pass) (m : List ℕ) : Type 0 where
  pub region : RegionGood m 14
  pub set : SetSound m p.sp
  pub tiles : 0 ≡ tiles_fault (in_set p.mode m p.sp) p.w p.h (quant_count m p.sp) (data_of m p.sp) (tile_count m p.sp) 0

pub pass_good : (s : Session) (m : List ℕ) (p : Pass) → p ≡ pass_of s m → 0 ≡ frame_fault judged s.width s.height s.mode m → PassGood p m
pass_good s m p e f =
    let g = message_good s.width s.height s.mode m f in
    subst (λ (q : Pass). PassGood q m) (sym e) (record { region = g.front.region; set = g.front.set; tiles = g.tiles })
