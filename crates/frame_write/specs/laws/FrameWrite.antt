-- Laws of the frame writer: what good arguments give, and one law for each way out. Its promise leaves one answer and one content of lent memory.
-- Assumes nothing.
use Rattle.std.specs.Prelude.{ℕ, zero, suc, ◌+◌, ◌*◌, ◌≤◌, ◌<◌, ◌≡◌, refl, Bool, true, false, List, leb, eqb, ℤ, pos, length, replicate, Result, Ok, Err}
use Rattle.std.proofs.Common.{sym, ◌∙◌, ⊎_elim, arith, le-leb, eqb-true}
use Rattle.std.proofs.lemmas.Bool.{lt-leb}
use Rattle.whole.specs.Row.{◌!◌⨾◌, ◌⨟◌}
use Rattle.whole.specs.laws.Row.{held, stops, goes_on, passes, fails}
use Rattle.wire.specs.Le.{bytes16, written}
use Rattle.wire.specs.Mode.{is_mode}
use Rattle.wire.specs.Wrote.{Wrote}
use Rattle.wire.specs.laws.Wrote.{refused, done, onward, wrote_once}
use Rattle.wire.specs.Refusal.{refusal_number}
use Rattle.wire.specs.laws.Refusal.{number_pos}
use Rattle.wire.specs.declared.Refusal.{Refusal}
use Rattle.wire.specs.declared.Refusal.TheVariants.{Room}
use Rattle.frame_layout.specs.Bytes.{Tile, tiles_of, begin_of, front_of, frame_of}
use Rattle.session.specs.Header.{size_good}
use Rattle.session.specs.laws.Header.{allowed}
use Rattle.bands.specs.Bands.{is_good}
use Rattle.bands.specs.laws.Band.{good_set}
use Rattle.code_write.specs.Write.{Measures}
use Rattle.frame_pieces.specs.Parts.{pixels_good}
use Rattle.frame_pieces.specs.laws.Parts.{frame_long, count_is, tens_of}
use Rattle.quants.specs.Quants.{sets_of, chroma_index}
use Rattle.quants.specs.declared.Quants.{Quants}
use Rattle.frame_write.specs.FrameWrite.{work_left}
use Rattle.frame_write.specs.Sets.{good_sets, frame_over, arg_fault_over, send_fault_over, FrameWrittenOver}
use Rattle.frame_write.specs.Picked.{stops_of}
use Rattle.frame_write.specs.Job.{ArgsGood}

-- ---- the arguments

both_tests : (a b : Bool) → (a ! false ⨾ b) ≡ true → (a ≡ true) × (b ≡ true)
unfolding ◌!◌⨾◌
both_tests true b e = (refl, e)
both_tests false b e = absurd (let z : ◌≡◌ {A = ℕ} 0 1 = cc in omega arith)

both_sets : (q : Quants) → good_sets q ≡ true → (is_good q.luma.v ≡ true) × (is_good q.chroma.v ≡ true)
unfolding good_sets
both_sets q e = both_tests (is_good q.luma.v) (is_good q.chroma.v) e

pub args_good :
    (w h mode : ℕ) (q : Quants) (p : List ℕ) (list scratch : ℕ) → 0 ≡ arg_fault_over w h mode q (length p) list scratch → ArgsGood w h mode q p list scratch
unfolding arg_fault_over pixels_good
args_good w h mode q p list scratch e =
    let a = held (size_good w h) 5 _ 0 (λ z. omega arith) e in
    let b = held (is_mode mode) 5 _ 0 (λ z. omega arith) a.1 in
    let c = held (good_sets q) 7 _ 0 (λ z. omega arith) b.1 in
    let k = both_sets q c.0 in
    let d = held (eqb (length p) (3 * (w * h))) 2 _ 0 (λ z. omega arith) c.1 in
    let f = held (eqb list 4096) 2 _ 0 (λ z. omega arith) d.1 in
    let g = held (eqb scratch 4096) 2 0 0 (λ z. omega arith) f.1 in
    let s = allowed w h mode a.0 b.0 in
    record {
      picture = record {
        wide = s.some_w;
        wider = s.most_w;
        high = s.some_h;
        higher = s.most_h;
        pixels = eqb-true (length p) (3 * (w * h)) d.0;
        luma = good_set q.luma.v k.0;
        chroma = good_set q.chroma.v k.1;
      };
      small = ⊎_elim {C = mode < 16} (λ z. omega arith) (λ z. omega arith) s.mode;
      first = eqb-true list 4096 f.0;
      second = eqb-true scratch 4096 g.0;
    }

-- work lists keep their lengths, and so the arguments stay good
pub still_good : {w h mode : ℕ} {q : Quants} {p : List ℕ} {a b a' b' : ℕ} → ArgsGood w h mode q p a b → a' ≡ a → b' ≡ b → ArgsGood w h mode q p a' b'
still_good g x y = record { picture = g.picture; small = g.small; first = x ∙ g.first; second = y ∙ g.second }

-- ---- the answers

module _ (index w h mode : ℕ) (q : Quants) (out : List ℕ) (n : ℕ) (tile : ℕ → Tile) (stop : ℕ → ℕ) where
  -- the frame of n tiles, and what is refused of it
  abbrev pub frame : List ℕ
  frame = frame_of index w h mode (sets_of q) n tile

  abbrev pub fault : ℕ
  fault = stops_of stop n 0 ⨟ (leb (length frame) (length out) ! 13 ⨾ 0)

  pub send_stop : (r : Refusal) → refusal_number r ≡ stops_of stop n 0 → Wrote fault frame out out (Err r)
  send_stop r e = refused _ r _ out (stops _ _ _ (λ z. number_pos r (e ∙ z)) e)

  module _ (l : length q.luma.v ≡ 10) (k : length q.chroma.v ≡ 10) (s : ℕ) (m : Measures (stops_of stop n 0) (length (tiles_of tile n 0)) (Ok s)) where
    frame_size : length frame ≡ 72 + 5 * chroma_index q + s
    frame_size = omega (arith, frame_long index w h mode (sets_of q) n (tens_of q l k) tile, count_is q l k, m.size refl)

    pub send_room : length out < 72 + 5 * chroma_index q + s → Wrote fault frame out out (Err Room)
    send_room r =
        refused _ Room _ out (goes_on _ _ _ (sym m.number) (fails _ _ _ _ (lt-leb (length frame) (length out) (omega (arith, frame_size))) refl))

    pub send_done : 72 + 5 * chroma_index q + s ≤ length out → (out' : List ℕ) (b : ℕ) → out' ≡ written frame out → b ≡ length frame →
        Wrote fault frame out out' (Ok b)
    send_done r out' b w' lk =
        done _ b _ out out' (goes_on _ _ _ (sym m.number) (passes _ _ _ _ (le-leb (length frame) (length out) (omega (arith, frame_size))) refl)) lk w'

pub untouched : (f x : ℕ) (xs : List ℤ) → x ≡ f → (x ≡ 0 → ⊥) → xs ≡ work_left f xs
unfolding work_left
untouched zero x xs e h = absurd (h e)
untouched (suc f) x xs e h = refl

pub cleared : (f : ℕ) (xs ys : List ℤ) → 0 ≡ f → ys ≡ replicate 4096 (pos 0) → ys ≡ work_left f xs
unfolding work_left
cleared zero xs ys e c = c
cleared (suc f) xs ys e c = absurd (omega arith)

module _ (w h mode : ℕ) (q : Quants) (index : ℕ) (p : List ℕ) (list scratch : List ℤ) (out : List ℕ) where
  abbrev arguments : ℕ
  arguments = arg_fault_over w h mode q (length p) (length list) (length scratch)

  pub all_refused : (x : Refusal) → refusal_number x ≡ arguments → FrameWrittenOver w h mode q index p list list scratch scratch out out (Err x)
  all_refused x is = record {
    wrote = refused _ x _ out (stops _ _ _ (λ z. number_pos x (is ∙ z)) is);
    first = untouched _ _ list is (number_pos x);
    second = untouched _ _ scratch is (number_pos x);
  }

  pub all_sent :
      0 ≡ arguments → (list' scratch' : List ℤ) (out' : List ℕ) (r : Result ℕ Refusal) →
      Wrote (send_fault_over index w h mode q p (length out)) (frame_over index w h mode q p) out out' r →
      list' ≡ replicate 4096 (pos 0) → scratch' ≡ replicate 4096 (pos 0) → FrameWrittenOver w h mode q index p list list' scratch scratch' out out' r
  all_sent z list' scratch' out' r s c d = record {
    wrote = onward _ _ _ out out' r z s;
    first = cleared _ list list' z c;
    second = cleared _ scratch scratch' z d;
  }

-- ---- the promise leaves one answer, one output and one content of each work list

-- a done answer says a length that no refusal says
some_frame : (index w h mode : ℕ) (q : Quants) (p : List ℕ) → 0 < length (frame_over index w h mode q p)
unfolding frame_over frame_of front_of begin_of bytes16
some_frame index w h mode q p = omega arith

pub frame_over_once :
    (w h mode : ℕ) (q : Quants) (index : ℕ) (p : List ℕ) (list a a' scratch b b' : List ℤ) (out c c' : List ℕ) (r r' : Result ℕ Refusal)
    → FrameWrittenOver w h mode q index p list a scratch b out c r
    → FrameWrittenOver w h mode q index p list a' scratch b' out c' r'
    → (r ≡ r') × (a ≡ a') × (b ≡ b') × (c ≡ c')
frame_over_once w h mode q index p list a a' scratch b b' out c c' r r' x y =
    let o = wrote_once _ _ out c c' r r' (λ z. some_frame index w h mode q p) x.wrote y.wrote in
    (o.0, x.first ∙ sym y.first, x.second ∙ sym y.second, o.1)
