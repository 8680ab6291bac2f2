-- There is a day with a refused call, a sync in the middle and an accepted frame on each side of it: our own headers and our own frame, then the headers again,
-- with the frame too early after the sync (12), and the frame again. In both modes, on either glass.
-- Assumes nothing.
use Rattle.std.specs.Prelude.{Ok}
use Prim.Native.Nat.{ℕ, ◌*◌, ◌≤◌}
use Rattle.wire.specs.Refusal.{number_of}
use mathlib.Core.Path.{◌≡◌, refl, sym, ap, subst, ◌∙◌}
use mathlib.Core.Bool.{false}
use mathlib.Core.List.{List, [], ◌∷◌}
use lib.IntN.{pos}
use lib.ListN.{length, take, drop, length-replicate}
use Rattle.whole.specs.Row.{◌!◌⨾◌, ◌⇒◌∣◌}
use Rattle.wire.specs.Le.{bytes16, bytes32}
use Rattle.wire.specs.laws.Wrote.{wrote_bytes}
use Rattle.session.specs.declared.Session.{Session}
use Rattle.session.specs.Header.{record_of, kept_glass, ready}
use Rattle.session.specs.laws.Header.{kept-glass, glass_kept}
use Rattle.headers.specs.Headers.{sync_of, versions_of, channels_of, context_of, headers_of}
use Rattle.headers.specs.laws.ReadBack.{AllTaken, our_headers}
use Rattle.calls.specs.Calls.{ReadHeader, session_after, ReadFrame, sent_by}
use Rattle.calls.specs.laws.Calls.{taken_by, unready_frame}
use Rattle.demands.specs.Demands.{OurCalls, OurFrame}
use Rattle.demands.proofs.Demands.{demands}
use Rattle.demands.proofs.Instance.{Met, met_1, met_4}
use Rattle.day.specs.Day.{State, state, fresh, header, frame, Day, no_call, accepted, drawn_by, drawn_over}
use Rattle.day.specs.laws.Once.{header_call, frame_call, header_then, frame_then}
use Rattle.day.specs.laws.Days.{days}

pub record DayMet (glass mode : ℕ) : Type 0 where
  pub first : List ℕ
  pub last : State
  pub one : ReadHeader
  pub two : ReadHeader
  pub three : ReadHeader
  pub four : ReadHeader
  pub before : ReadFrame
  pub sync : ReadHeader
  pub early : ReadFrame
  pub six : ReadHeader
  pub seven : ReadHeader
  pub eight : ReadHeader
  pub after : ReadFrame
  pub day :
      Day (fresh glass glass first)
      (header one ∷ header two ∷ header three ∷ header four ∷ frame before
      ∷ header sync ∷ frame early ∷ header six ∷ header seven ∷ header eight ∷ frame after ∷ []) last
  pub before_accepted : number_of before.answer ≡ 0
  pub sync_is : sync.message ≡ sync_of
  pub sync_taken : sync.answer ≡ Ok (record_of glass 1 0 0 0)
  pub early_refused : number_of early.answer ≡ 12
  pub after_accepted : number_of after.answer ≡ 0
  pub before_mode : before.session.mode ≡ mode
  pub after_mode : after.session.mode ≡ mode
  -- what is shown in the end
  pub shown : last.picture ≡ drawn_by after (drawn_by before first)

-- our headers begin with a sync
first_block : (w h et : ℕ) → take 12 (headers_of w h et) ≡ sync_of
unfolding headers_of sync_of versions_of channels_of context_of bytes16 bytes32
first_block w h et = refl

unready : (g : ℕ) (x : Session) → x ≡ record_of g 1 0 0 0 → ready x ≡ false
unfolding ready ◌!◌⨾◌
unready g x e = rw e

module _ (glass : ℕ) (either : glass ≤ 1) (mode : ℕ) (m : Met glass mode) where
  abbrev sent : List ℕ
  sent = sent_by m.headers.answer m.headers.out'

  abbrev bytes : List ℕ
  bytes = sent_by m.frame.answer m.frame.out'

  -- the headers from a record on, and then the frame over a picture
  abbrev h1 : Session → ReadHeader
  h1 s = header_call s (take 12 sent)

  abbrev h2 : Session → ReadHeader
  h2 s = header_call (session_after (h1 s)) (take 10 (drop 12 sent))

  abbrev h3 : Session → ReadHeader
  h3 s = header_call (session_after (h2 s)) (take 12 (drop 22 sent))

  abbrev h4 : Session → ReadHeader
  h4 s = header_call (session_after (h3 s)) (take 13 (drop 34 sent))

  abbrev drawing : Session → List ℕ → ReadFrame
  drawing s pic = frame_call glass s bytes pic 4096 4096 4096 4096

  abbrev f1 : Session → List ℕ → ReadFrame
  f1 s pic = drawing (session_after (h4 s)) pic

  ours :
      (s : Session) (pic : List ℕ) → glass ≡ kept_glass s.glass → length pic ≡ length m.read.picture →
      OurCalls m.headers (h1 s) (h2 s) (h3 s) (h4 s) m.frame (f1 s pic)
  ours s pic g l = record {
    headers_done = m.calls.headers_done;
    sync = refl;
    versions = refl;
    channels = refl;
    context = refl;
    glass = g;
    then_two = refl;
    then_three = refl;
    then_four = refl;
    same_width = m.calls.same_width;
    same_height = m.calls.same_height;
    same_mode = m.calls.same_mode;
    ten = m.calls.ten;
    frame_done = m.calls.frame_done;
    frame = refl;
    then_frame = refl;
    y_long = length-replicate 4096 (pos 0);
    cb_long = length-replicate 4096 (pos 0);
    cr_long = length-replicate 4096 (pos 0);
    scratch_long = length-replicate 4096 (pos 0);
    room = subst (λ (n : ℕ). m.frame.height * m.frame.width ≤ n) (sym l) m.calls.room;
  }

  all_taken : (s : Session) → AllTaken s m.headers.width m.headers.height m.headers.mode sent
  all_taken s = our_headers s _ _ _ _ _ _ m.headers.promise m.calls.headers_done

  synced : (s : Session) → session_after (h1 s) ≡ record_of (kept_glass s.glass) 1 0 0 0
  synced s = (taken_by (h1 s) s _ _ refl refl (all_taken s).one).1

  readied : (s : Session) → session_after (h4 s) ≡ record_of (kept_glass s.glass) 4 m.headers.width m.headers.height m.headers.mode
  readied s =
      let t = all_taken s in
      let two = (taken_by (h2 s) _ _ _ (synced s) refl t.two).1 in
      let three = (taken_by (h3 s) _ _ _ two refl t.three).1 in
      (taken_by (h4 s) _ _ _ three refl t.four).1

  moded : (s : Session) → (session_after (h4 s)).mode ≡ mode
  moded s = ap (λ (x : Session). x.mode) (readied s) ∙ sym m.calls.same_mode ∙ m.in_mode

  abbrev r0 : Session
  r0 = record_of glass 0 0 0 0

  abbrev r1 : Session
  r1 = session_after (h4 r0)

  -- the glass is the same from first to last
  r0_glass : glass ≡ kept_glass r0.glass
  r0_glass = sym (kept-glass glass either)

  r1_glass : glass ≡ kept_glass r1.glass
  r1_glass = r0_glass ∙ sym (kept-glass _ (glass_kept glass)) ∙ sym (ap (λ (x : Session). kept_glass x.glass) (readied r0))

  abbrev p0 : List ℕ
  p0 = m.read.picture

  abbrev p1 : List ℕ
  p1 = (f1 r0 p0).picture'

  abbrev refused : ReadFrame
  refused = drawing (session_after (h1 r1)) p1

  abbrev p2 : List ℕ
  p2 = refused.picture'

  abbrev made :
      Day (fresh glass glass p0)
      (header (h1 r0) ∷ header (h2 r0) ∷ header (h3 r0) ∷ header (h4 r0) ∷ frame (f1 r0 p0)
      ∷ header (h1 r1) ∷ frame refused ∷ header (h2 r1) ∷ header (h3 r1) ∷ header (h4 r1) ∷ frame (f1 r1 p2) ∷ [])
      (state (session_after (h4 r1)) glass (f1 r1 p2).picture')
  made =
      header_then _ _ (header_then _ _ (header_then _ _ (header_then _ _ (frame_then _ bytes 4096 4096 4096 4096
      (header_then _ _ (frame_then _ bytes 4096 4096 4096 4096
      (header_then _ _ (header_then _ _ (header_then _ _ (frame_then _ bytes 4096 4096 4096 4096 no_call))))))))))

  first_ours : OurFrame (h1 r0) (h2 r0) (h3 r0) (h4 r0) m.frame (f1 r0 p0)
  first_ours = demands.two.our_frames _ _ _ _ _ _ _ (ours r0 p0 r0_glass refl)

  last_ours : OurFrame (h1 r1) (h2 r1) (h3 r1) (h4 r1) m.frame (f1 r1 p2)
  last_ours = demands.two.our_frames _ _ _ _ _ _ _ (ours r1 p2 r1_glass (demands.two.long refused ∙ demands.two.long (f1 r0 p0)))

  early_number : number_of refused.answer ≡ 12
  early_number = unready_frame refused (unready _ _ (synced r1))

  is-sync : take 12 sent ≡ sync_of
  is-sync = ap (take 12) (wrote_bytes _ _ _ _ _ m.headers.promise m.calls.headers_done) ∙ first_block _ _ _

-- two accepted frames and a refused one between them
picked :
    (a b c : ReadFrame) (pic : List ℕ)
    → number_of a.answer ≡ 0
    → number_of b.answer ≡ 12
    → number_of c.answer ≡ 0
    → drawn_over (accepted (frame a ∷ frame b ∷ frame c ∷ [])) pic ≡ drawn_by c (drawn_by a pic)
unfolding accepted drawn_over ◌⇒◌∣◌
picked a b c pic x y z = rw (x, y, z)

met : (glass : ℕ) → glass ≤ 1 → (mode : ℕ) → Met glass mode → DayMet glass mode
unfolding accepted
met glass l mode m = record {
  first = p0 glass l mode m;
  last = state _ glass (f1 glass l mode m (r1 glass l mode m) (p2 glass l mode m)).picture';
  one = h1 glass l mode m (r0 glass l mode m);
  two = h2 glass l mode m (r0 glass l mode m);
  three = h3 glass l mode m (r0 glass l mode m);
  four = h4 glass l mode m (r0 glass l mode m);
  before = f1 glass l mode m (r0 glass l mode m) (p0 glass l mode m);
  sync = h1 glass l mode m (r1 glass l mode m);
  early = refused glass l mode m;
  six = h2 glass l mode m (r1 glass l mode m);
  seven = h3 glass l mode m (r1 glass l mode m);
  eight = h4 glass l mode m (r1 glass l mode m);
  after = f1 glass l mode m (r1 glass l mode m) (p2 glass l mode m);
  day = made glass l mode m;
  before_accepted = (first_ours glass l mode m).accepted;
  sync_is = is-sync glass l mode m;
  sync_taken = (all_taken glass l mode m (r1 glass l mode m)).one ∙ ap (λ (g : ℕ). Ok (record_of g 1 0 0 0)) (sym (r1_glass glass l mode m));
  early_refused = early_number glass l mode m;
  after_accepted = (last_ours glass l mode m).accepted;
  before_mode = moded glass l mode m (r0 glass l mode m);
  after_mode = moded glass l mode m (r1 glass l mode m);
  shown =
      days.drawn (made glass l mode m)
      ∙ picked _ _ _ _ (first_ours glass l mode m).accepted (early_number glass l mode m) (last_ours glass l mode m).accepted;
}

pub day_met_1 : (glass : ℕ) → glass ≤ 1 → DayMet glass 1
day_met_1 glass l = met glass l 1 (met_1 glass l)

pub day_met_4 : (glass : ℕ) → glass ≤ 1 → DayMet glass 4
day_met_4 glass l = met glass l 4 (met_4 glass l)
