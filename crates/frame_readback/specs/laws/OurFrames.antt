-- Our own frames read back, over the calls: 01's demand 2, the other way. The calls appear as their promises, over any values that meet
-- them; no code is mentioned.
-- Assumes nothing.
-- (01 is this project's scope document, 02 its change requests, 001 is MS-RDPRFX: README, "What 01 is".)
use Rattle.std.specs.Prelude.{ℕ, ◌+◌, ◌*◌, ◌/◌, ◌%◌, ◌≤◌, ◌<◌, ◌≡◌, true, false, List, ◌++◌, ◌⊎◌, ℤ, length, take, Result}
use Rattle.std.proofs.Math.Path.{refl, ap₂, sym, subst}
use Rattle.std.proofs.Common.{ap, ◌∙◌, div-add-mod', eqb-true, eq-eqb, ne_eqb, le-leb}
use Rattle.std.proofs.Math.Logic.{⊎_elim}
use native.Mathlib.Omega.{arith}
use Rattle.std.proofs.Math.Nat.{mul_comm}
use Rattle.std.proofs.Math.Dec.{eqb}
use Rattle.wire.specs.Mode.{is_mode}
use Rattle.wire.specs.Refusal.{number_of, count_of}
use Rattle.wire.specs.laws.Wrote.{wrote_bytes}
use Rattle.wire.specs.declared.Refusal.{Refusal}
use Rattle.whole.specs.Row.{◌⇒◌∣◌}
use Rattle.whole.specs.laws.Row.{passes, fails, both, held, goes_on, case_is}
use Rattle.frame_layout.specs.Bytes.{Tile, set_count, tiles_of, frame_of, end_of}
use Rattle.quants.specs.Quants.{quant_for, sets_of, chroma_index, one_for}
use Rattle.quants.specs.declared.Quants.{Quants}
use Rattle.frame_layout.specs.Reader.{size_at, set_place, rect_count, set_at, frame_tiles}
use Rattle.frame_layout.specs.laws.Tiles.{listed}
use Rattle.frame_layout.specs.laws.ReadBack.{sent_set, set_found, front, sent_small, Taken}
use Rattle.frame_blocks.specs.Blocks.{rects_of}
use Rattle.bands.specs.Bands.{quant_of, summed, scaled_by}
use Rattle.session.specs.declared.Session.{Session}
use Rattle.session.specs.Header.{record_of, size_good}
use Rattle.session.specs.laws.Header.{ready_at}
use Rattle.headers.specs.Headers.{HeadersWritten}
use Rattle.headers.specs.laws.ReadBack.{AllTaken, our_headers}
use Rattle.code_write.specs.Write.{bytes_of}
use Rattle.tile_back.specs.Component.{component_fault, samples_of}
use Rattle.wave_back.specs.Tile.{tile_back}
use Rattle.frame_blocks.specs.Tiles.{code_part, index_of}
use Rattle.frame_blocks.specs.Judged.{judged}
use Rattle.whole.specs.laws.Tab.{row_in}
use Rattle.frame_draw.specs.laws.Pixels.{split}
use Rattle.frame_draw.specs.Draw.{in_region}
use Rattle.frame_draw.specs.Shown.{in_tile, Found, found, none, last_tile, word_in}
use Rattle.frame_draw.specs.Show.{plane_of, tile_word}
use Rattle.frame.specs.Frame.{full, call_fault, early, frame_number, FrameRead}
use Rattle.frame.specs.laws.Glass.{number_is, accepted, shown_pixel, shown_past, shown_length}
use Rattle.frame_pieces.specs.Parts.{tile_with, cols_of, tiles_no}
use Rattle.frame_pieces.specs.laws.Parts.{count_is}
use Rattle.frame_write.specs.Encode.{tile_part}
use Rattle.frame_write.specs.FrameWrite.{FrameWritten}
use Rattle.frame_write.specs.Sets.{tile_over, frame_over, refusals_over, arg_fault_over, send_fault_over, FrameWrittenOver}
use Rattle.frame_write.specs.laws.OneSet.{as_over}
use Rattle.frame_write.specs.laws.FrameWrite.{args_good}
use Rattle.frame_readback.specs.laws.OurTiles.{PartTaken, Sendable, SendablePicks, all_sendable, luma_back, chroma_back, tens, tile_taken, sent}
use Rattle.frame_readback.specs.laws.OurTiles.{our_frame}
use Rattle.frame_readback.specs.Own.{samples_back, word_back, word_over, tile_no, Shown, ShownOver}
use Rattle.frame_readback.specs.Picked.{ShownPicked}
use Rattle.frame_readback.specs.laws.Own.{Seen, Unseen, last_picked, tile_place, whole_region}

-- ---- what the writer's 0 gives

pub mode_of : (w h mode : ℕ) (q : Quants) (pixels list scratch : ℕ) → 0 ≡ arg_fault_over w h mode q pixels list scratch →
    (size_good w h ≡ true) × (is_mode mode ≡ true)
unfolding arg_fault_over
mode_of w h mode q pixels list scratch e =
    let a = held (size_good w h) 5 _ 0 (λ z. omega arith) e in
    let b = held (is_mode mode) 5 _ 0 (λ z. omega arith) a.1 in
    (a.0, b.0)

pub record Written (w h mode : ℕ) (q : Quants) (index : ℕ) (p out' : List ℕ) (r : Result ℕ Refusal) : Type 0 where
  pub size : size_good w h ≡ true
  pub sendable : Sendable p w h mode q
  pub bytes : take (count_of r) out' ≡ frame_over index w h mode q p

pub written_is :
    (w h mode : ℕ) (q : Quants) (index : ℕ) (p : List ℕ) (list list' scratch scratch' : List ℤ) (out out' : List ℕ) (r : Result ℕ Refusal)
    → length q.luma.v ≡ 10
    → length q.chroma.v ≡ 10
    → FrameWrittenOver w h mode q index p list list' scratch scratch' out out' r
    → number_of r ≡ 0
    → Written w h mode q index p out' r
unfolding send_fault_over
written_is w h mode q index p list list' scratch scratch' out out' r luma chroma f e =
    let a = both (arg_fault_over w h mode q (length p) (length list) (length scratch)) _ (sym e ∙ f.wrote.number) in
    let b = both (refusals_over p w h mode q (tiles_no w h) 0) _ a.1 in
    let g = args_good w h mode q p (length list) (length scratch) a.0 in
    let m = mode_of w h mode q (length p) (length list) (length scratch) a.0 in
    record {
      size = m.0;
      sendable = record { picture = g.picture; luma = luma; chroma = chroma; allowed = m.1; none = b.0 };
      bytes = wrote_bytes _ (frame_over index w h mode q p) out out' r f.wrote e;
    }

-- ---- the tile of a pixel

module _ (p : List ℕ) (w h mode : ℕ) (q : Quants) (px py : ℕ) (in-w : px < w) (in_h : py < h) where
  col_in : px / 64 < cols_of w
  unfolding cols_of
  col_in = omega arith

  row_in_h : py / 64 < cols_of h
  unfolding cols_of
  row_in_h = omega arith

  here : in_tile (tile_over p w h mode q (tile_no w px py)) px py ≡ true
  unfolding in_tile tile_over tile_with tile_no
  here =
      let e = tile_place (cols_of w) (px / 64) (py / 64) col_in in
      sym
      (passes _ _ _ _ (eq-eqb (px / 64) ((py / 64 * cols_of w + px / 64) % cols_of w) (sym e.0))
      (sym (eq-eqb (py / 64) ((py / 64 * cols_of w + px / 64) / cols_of w) (sym e.1))))

  other : (j : ℕ) → (j ≡ tile_no w px py → ⊥) → in_tile (tile_over p w h mode q j) px py ≡ false
  unfolding in_tile tile_over tile_with tile_no
  other j ne =
      ⊎_elim
      (λ (a : eqb (px / 64) (j % cols_of w) ≡ true).
      sym (passes _ _ _ _ a (sym (ne_eqb (py / 64) (j / cols_of w) (λ b. ne (sym (div-add-mod' j (cols_of w)) ∙ ap₂ (λ (y x : ℕ). y * cols_of w + x) (sym b)
      (sym (eqb-true _ _ a))))))))
      (λ (a : eqb (px / 64) (j % cols_of w) ≡ false). sym (fails _ _ _ _ a refl))
      (split (eqb (px / 64) (j % cols_of w)))

  pub tile_among : tile_no w px py < tiles_no w h
  unfolding tile_no tiles_no
  tile_among = omega (arith, row_in (py / 64) (cols_of h) (cols_of w) row_in_h, col_in, mul_comm (cols_of w) (cols_of h))

  module _ (n : ℕ) (pick : ℕ → ℕ) where
    abbrev last : Found
    last = last_tile (listed (λ (i : ℕ). tile_over p w h mode q (pick i)) n 0) px py

    picked : Seen (tile_over p w h mode q) pick px py (tile_no w px py) n 0 ⊎ Unseen (tile_over p w h mode q) pick px py (tile_no w px py) n 0
    picked = last_picked (tile_over p w h mode q) pick px py (tile_no w px py) here other n 0

    pub its_tile : (i : ℕ) → i < n → pick i ≡ tile_no w px py → last ≡ found (tile_over p w h mode q (tile_no w px py))
    its_tile i l e = ⊎_elim (λ s. s.last) (λ u. absurd (u.not i (omega arith) (omega arith) e)) picked

    pub no_tile : ((i : ℕ) → i < n → pick i ≡ tile_no w px py → ⊥) → last ≡ none
    no_tile f = ⊎_elim (λ s. absurd (f s.place (omega (arith, s.to)) s.is)) (λ u. u.last) picked

-- ---- what our frame is to the frame call

judges : (mode : ℕ) (set code : List ℕ) → judged mode set code ≡ component_fault mode (quant_of set) code
unfolding judged
judges mode set code = refl

module _ (p : List ℕ) (w h mode : ℕ) (q : Quants) (index n : ℕ) (pick : ℕ → ℕ) (s : SendablePicks p w h mode q n pick) where
  abbrev pub m : List ℕ
  m = frame_of index w h mode (sets_of q) n (λ (i : ℕ). tile_over p w h mode q (pick i))

  taken : Taken judged w h mode n (λ (i : ℕ). tile_over p w h mode q (pick i)) m
  taken = our_frame p w h mode q n pick s judged (judges mode) index

  set_is : (j : ℕ) → j < set_count (sets_of q) → set_at m (set_place m) j ≡ sent_set (sets_of q) j
  unfolding frame_of set_place size_at
  set_is j l =
      let t = sent p w h mode q n pick s judged (judges mode) in
      let D = tiles_of (λ (i : ℕ). tile_over p w h mode q (pick i)) n 0 in
      let f = front index w h mode (sets_of q) n (length D) (D ++ end_of) t.wide t.high t.mode (omega (arith, t.few))
      (sent_small judged w h mode (sets_of q) n (λ (i : ℕ). tile_over p w h mode q (pick i)) t) t.sets.tens in
      rw f.region.1.0 (set_found m (sets_of q) (D ++ end_of) j t.sets.tens l f.quants)

  part_back : (j : ℕ) (v : List ℕ) (zs : List ℤ) → j < set_count (sets_of q) → quant_of (sent_set (sets_of q) j) ≡ v → PartTaken mode v zs →
      samples_of mode (quant_of (set_at m (set_place m) j)) (bytes_of mode zs) ≡ tile_back (scaled_by v (summed zs))
  part_back j v zs l e t =
      ap (λ (x : List ℕ). samples_of mode (quant_of x) (bytes_of mode zs)) (set_is j l)
      ∙ ap (λ (x : List ℕ). samples_of mode x (bytes_of mode zs)) e ∙ t.samples

  word-back : (glass k i : ℕ) → k < n → tile_word glass mode (set_at m (set_place m)) (tile_over p w h mode q (pick k)) i ≡ word_over glass p w h q (pick k) i
  unfolding tile_word plane_of index_of code_part tile_over tile_with tile_part word_over samples_back quant_for ◌⇒◌∣◌
  word-back glass k i l =
      let t = tile_taken p w h mode q n pick s k l in
      let sets = count_is q s.luma s.chroma in
      let z = tens p w h mode q n pick s in
      rw (
        part_back 0 _ _ (omega arith) (luma_back q z) t.y,
        part_back (chroma_index q) _ _ (omega arith) (chroma_back q z) t.cb,
        part_back (chroma_index q) _ _ (omega arith) (chroma_back q z) t.cr,
      ) refl

  region : (px py : ℕ) → px < w → py < h → in_region (rects_of m 14) (rect_count m 14) px py ≡ true
  unfolding rects_of
  region px py a b = rw taken.rects (whole_region m w h px py taken.rect.0 taken.rect.1.0 taken.rect.1.1.0 taken.rect.1.1.1 a b)

  shown_as : (glass px py old : ℕ) (f : Found) → px < w → py < h → last_tile (listed (λ (i : ℕ). tile_over p w h mode q (pick i)) n 0) px py ≡ f →
      (in_region (rects_of m 14) (rect_count m 14) px py ⇒ word_in (tile_word glass mode (set_at m (set_place m))) px py (last_tile (frame_tiles m) px py) old
      ∣ old)
      ≡ word_in (tile_word glass mode (set_at m (set_place m))) px py f old
  shown_as glass px py old f a b e =
      case_is _ _ _ _ (region px py a b) refl
      ∙ ap (λ (z : Found). word_in (tile_word glass mode (set_at m (set_place m))) px py z old) (ap (λ (ts : List Tile). last_tile ts px py) taken.tiles ∙ e)

  shown-word : (glass px py old i : ℕ) → px < w → py < h → i < n → pick i ≡ tile_no w px py →
      (in_region (rects_of m 14) (rect_count m 14) px py ⇒ word_in (tile_word glass mode (set_at m (set_place m))) px py (last_tile (frame_tiles m) px py) old
      ∣ old)
      ≡ word_over glass p w h q (tile_no w px py) (64 * (py % 64) + px % 64)
  unfolding word_in
  shown-word glass px py old i a b l e =
      shown_as glass px py old _ a b (its_tile p w h mode q px py a b n pick i l e)
      ∙ subst
      (λ (k : ℕ). tile_word glass mode (set_at m (set_place m)) (tile_over p w h mode q k) (64 * (py % 64) + px % 64) ≡ word_over glass p w h q k
      (64 * (py % 64) + px % 64)) e
      (word-back glass i (64 * (py % 64) + px % 64) l)

  shown_other : (glass px py old : ℕ) → px < w → py < h → ((i : ℕ) → i < n → pick i ≡ tile_no w px py → ⊥) →
      (in_region (rects_of m 14) (rect_count m 14) px py ⇒ word_in (tile_word glass mode (set_at m (set_place m))) px py (last_tile (frame_tiles m) px py) old
      ∣ old)
      ≡ old
  unfolding word_in
  shown_other glass px py old a b f = shown_as glass px py old none a b (no_tile p w h mode q px py a b n pick f)

  -- the frame call on it, with the record that our headers give, lists of 4,096 and a picture long enough
  module _ (glass : ℕ) (either : glass ≤ 1) (good : size_good w h ≡ true) (pic : List ℕ) (y cb cr tmp : List ℤ) (pic' : List ℕ) (y' cb' cr' tmp' : List ℤ)
      (r : Result ℕ Refusal)
      (ly : length y ≡ 4096) (lb : length cb ≡ 4096) (lr : length cr ≡ 4096) (lt : length tmp ≡ 4096) (room : h * w ≤ length pic)
      (done : FrameRead glass (record_of glass 4 w h mode) m pic y cb cr tmp pic' y' cb' cr' tmp' r) where
    call_fine : 0 ≡ early glass (record_of glass 4 w h mode) pic y cb cr tmp
    unfolding call_fault full
    call_fine =
        passes _ _ _ _ (ready_at glass w h mode either good s.allowed) (passes _ _ _ _
        (sym
        (passes _ _ _ _ (eq-eqb (length y) 4096 ly)
        (passes _ _ _ _ (eq-eqb (length cb) 4096 lb) (passes _ _ _ _ (eq-eqb (length cr) 4096 lr) (sym (eq-eqb (length tmp) 4096 lt))))))
        (passes _ _ _ _ (eq-eqb glass glass refl) (passes _ _ _ _ (le-leb (h * w) (length pic) room) refl)))

    number_0 : number_of r ≡ 0
    unfolding frame_number
    number_0 = number_is glass (record_of glass 4 w h mode) m pic y cb cr tmp pic' y' cb' cr' tmp' r done ∙ sym (goes_on _ _ _ (sym call_fine) taken.fault)

    pub shown : ShownPicked glass p w h q n pick pic pic' r
    shown = record {
      number = number_0;
      tiles = (accepted glass (record_of glass 4 w h mode) m pic y cb cr tmp pic' y' cb' cr' tmp' r done number_0).counted ∙ taken.count;
      word =
          λ px py a b i l e.
          shown_pixel glass (record_of glass 4 w h mode) m pic y cb cr tmp pic' y' cb' cr' tmp' r done number_0 px py a b
          ∙ shown-word glass px py _ i a b l e;
      others =
          λ px py a b f.
          shown_pixel glass (record_of glass 4 w h mode) m pic y cb cr tmp pic' y' cb' cr' tmp' r done number_0 px py a b ∙ shown_other glass px py _ a b f;
      past = shown_past glass (record_of glass 4 w h mode) m pic y cb cr tmp pic' y' cb' cr' tmp' r done number_0;
      long = shown_length glass (record_of glass 4 w h mode) m pic y cb cr tmp pic' y' cb' cr' tmp' r done number_0;
    }

-- all tiles sent: every word of the channel
all_shown : (glass : ℕ) (p : List ℕ) (w h mode : ℕ) (q : Quants) (pic pic' : List ℕ) (r : Result ℕ Refusal) →
    ShownPicked glass p w h q (tiles_no w h) (λ k. k) pic pic' r → ShownOver glass p w h q pic pic' r
all_shown glass p w h mode q pic pic' r s = record {
  number = s.number;
  tiles = s.tiles;
  word = λ px py a b. s.word px py a b (tile_no w px py) (tile_among p w h mode q px py a b) refl;
  past = s.past;
  long = s.long;
}

-- our frame alone: with the record that our headers give
pub own_frame_over :
    (glass w h mode : ℕ) → glass ≤ 1 → (q : Quants) (index : ℕ) (p : List ℕ) (list list' scratch scratch' : List ℤ) (out out' : List ℕ) (r : Result ℕ Refusal) →
    length q.luma.v ≡ 10 → length q.chroma.v ≡ 10 →
    FrameWrittenOver w h mode q index p list list' scratch scratch' out out' r → number_of r ≡ 0 →
    (pic : List ℕ) (y cb cr tmp : List ℤ) (pic' : List ℕ) (y' cb' cr' tmp' : List ℤ) (answer : Result ℕ Refusal) →
    length y ≡ 4096 → length cb ≡ 4096 → length cr ≡ 4096 → length tmp ≡ 4096 → h * w ≤ length pic →
    FrameRead glass (record_of glass 4 w h mode) (take (count_of r) out') pic y cb cr tmp pic' y' cb' cr' tmp' answer →
    ShownOver glass p w h q pic pic' answer
unfolding frame_over
own_frame_over glass w h mode either q index p list list' scratch scratch' out out' r luma chroma fw f pic y cb cr tmp pic' y' cb' cr' tmp' answer ly lb lr lt
    room done =
    let u = written_is w h mode q index p list list' scratch scratch' out out' r luma chroma fw f in
    let d = subst (λ (x : List ℕ). FrameRead glass (record_of glass 4 w h mode) x pic y cb cr tmp pic' y' cb' cr' tmp' answer) u.bytes done in
    let x = shown p w h mode q index (tiles_no w h) (λ k. k) (all_sendable p w h mode q u.sendable) glass either u.size pic y cb cr tmp pic' y' cb' cr'
    tmp' answer
    ly lb lr lt room d in
    all_shown glass p w h mode q pic pic' answer x

-- THE STATEMENT OVER THE CALLS. Whenever our two writers are done, for the same size and mode: four header calls on our headers, from any
-- record at all, answer 0 and end in (4, w, h, mode); and the frame call on our frame, with that record on either glass, a picture of its words, work lists
-- of 4,096 and a picture long
-- enough, answers 0, reports the number of tiles and shows at every place of the channel the word that decoding gives for the rounded
-- coefficients of the given pixels; nothing else changes.
-- Over both sets, each component by its own:
pub our_own_frames_over :
    (glass : ℕ) (s₀ : Session) (w h mode : ℕ) (ho ho' : List ℕ) (hr : Result ℕ Refusal) → glass ≤ 1 →
    HeadersWritten w h mode ho ho' hr → number_of hr ≡ 0 →
    (q : Quants) (index : ℕ) (p : List ℕ) (list list' scratch scratch' : List ℤ) (out out' : List ℕ) (r : Result ℕ Refusal) →
    length q.luma.v ≡ 10 → length q.chroma.v ≡ 10 →
    FrameWrittenOver w h mode q index p list list' scratch scratch' out out' r → number_of r ≡ 0 →
    (pic : List ℕ) (y cb cr tmp : List ℤ) (pic' : List ℕ) (y' cb' cr' tmp' : List ℤ) (answer : Result ℕ Refusal) →
    length y ≡ 4096 → length cb ≡ 4096 → length cr ≡ 4096 → length tmp ≡ 4096 → h * w ≤ length pic →
    FrameRead glass (record_of glass 4 w h mode) (take (count_of r) out') pic y cb cr tmp pic' y' cb' cr' tmp' answer →
    AllTaken s₀ w h mode (take (count_of hr) ho') × ShownOver glass p w h q pic pic' answer
our_own_frames_over glass s₀ w h mode ho ho' hr either hw e q index p list list' scratch scratch' out out' r luma chroma fw f
    pic y cb cr tmp pic' y' cb' cr' tmp' answer ly lb lr lt room done = (
      our_headers s₀ w h mode ho ho' hr hw e,
      own_frame_over glass w h mode either q index p list list' scratch scratch' out out' r luma chroma fw f pic y cb cr tmp pic' y' cb' cr' tmp' answer ly lb
          lr lt room done,
    )

-- with one set for both it is what 01 says
one_shown :
    (glass : ℕ) (p : List ℕ) (w h : ℕ) (q pic pic' : List ℕ) (r : Result ℕ Refusal) → ShownOver glass p w h (one_for q) pic pic' r →
    Shown glass p w h q pic pic' r
unfolding word_over word_back quant_for ◌⇒◌∣◌
one_shown glass p w h q pic pic' r s = record { number = s.number; tiles = s.tiles; word = s.word; past = s.past; long = s.long }

pub our_own_frames :
    (glass : ℕ) (s₀ : Session) (w h mode : ℕ) (ho ho' : List ℕ) (hr : Result ℕ Refusal) → glass ≤ 1 →
    HeadersWritten w h mode ho ho' hr → number_of hr ≡ 0 →
    (q : List ℕ) (index : ℕ) (p : List ℕ) (list list' scratch scratch' : List ℤ) (out out' : List ℕ) (r : Result ℕ Refusal) →
    length q ≡ 10 →
    FrameWritten w h mode q index p list list' scratch scratch' out out' r → number_of r ≡ 0 →
    (pic : List ℕ) (y cb cr tmp : List ℤ) (pic' : List ℕ) (y' cb' cr' tmp' : List ℤ) (answer : Result ℕ Refusal) →
    length y ≡ 4096 → length cb ≡ 4096 → length cr ≡ 4096 → length tmp ≡ 4096 → h * w ≤ length pic →
    FrameRead glass (record_of glass 4 w h mode) (take (count_of r) out') pic y cb cr tmp pic' y' cb' cr' tmp' answer →
    AllTaken s₀ w h mode (take (count_of hr) ho') × Shown glass p w h q pic pic' answer
our_own_frames glass s₀ w h mode ho ho' hr either hw e q index p list list' scratch scratch' out out' r ten fw f
    pic y cb cr tmp pic' y' cb' cr' tmp' answer ly lb lr lt room done =
    let both = our_own_frames_over glass s₀ w h mode ho ho' hr either hw e (one_for q) index p list list' scratch scratch' out out' r ten ten
    (as_over w h mode q index p list list' scratch scratch' out out' r fw) f pic y cb cr tmp pic' y' cb' cr' tmp' answer ly lb lr lt room done in
    (both.0, one_shown glass p w h q pic pic' answer both.1)
