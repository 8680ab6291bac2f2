-- A short frame on a glass that shows the old picture: listed tiles are drawn, and the others are the same in both pictures.
-- Assumes nothing.
use Rattle.std.specs.Prelude.{ℕ, ◌+◌, ◌*◌, ◌%◌, ◌≤◌, ◌<◌, ◌≡◌, Bool, true, false, ℤ, length, take, Result}
use Rattle.wire.specs.declared.Refusal.{Refusal}
use Rattle.plan.specs.Answer.{plan_number}
use Rattle.short_write.specs.Answer.{short_count}
use Rattle.std.proofs.Math.Path.{refl, ap, subst}
use Rattle.std.proofs.Common.{sym, ◌∙◌, arith}
use mathlib.Core.List.{List}
use Rattle.std.proofs.Math.ListN.{get_or}
use Rattle.whole.specs.laws.Row.{both}
use Rattle.wire.specs.Mode.{is_mode}
use Rattle.short_write.specs.laws.Answer.{wrote_short_bytes}
use Rattle.session.specs.Header.{record_of, size_good}
use Rattle.bands.specs.Bands.{summed, scaled_by}
use Rattle.quants.specs.declared.Quants.{Quants}
use Rattle.wave_back.specs.Tile.{tile_back}
use Rattle.frame.specs.Frame.{FrameRead}
use Rattle.frame_pieces.specs.Parts.{tiles_no}
use Rattle.frame_write.specs.Encode.{list_of}
use Rattle.frame_write.specs.Sets.{tile_refusal_over, arg_fault_over}
use Rattle.frame_write.specs.Picked.{frame_picked, refusals_picked, send_fault_picked}
use Rattle.frame_write.specs.laws.Stops.{stops_none}
use Rattle.frame_readback.specs.Own.{samples_back, word_over, tile_no}
use Rattle.frame_readback.specs.Picked.{ShownPicked}
use Rattle.frame_readback.specs.laws.OurTiles.{SendablePicks}
use Rattle.frame_readback.specs.laws.OurFrames.{mode_of, tile_among, shown}
use Rattle.plan.specs.Plan.{changed_tile, is_listed, picks_fault}
use Rattle.plan.specs.Facts.{Acceptable}
use Rattle.plan.specs.laws.All.{yes_not_no}
use Rattle.plan.specs.laws.Lists.{listed_is, is-listed}
use Rattle.plan.specs.laws.Samples.{same_list}
use Rattle.plan.specs.laws.Request.{changed_is}
use Rattle.short_write.specs.Short.{own_fault, short_fault}
use Rattle.short_write.specs.laws.Short.{own_good, check_passed, list_good, list_there}
use Rattle.short_readback.specs.Request.{WriteShort, own_of, check_of, Shows, ShortShown}

-- ---- a tile that does not differ gives the same words

module _ (old new : List ℕ) (w h k : ℕ) (e : changed_tile old new w h k ≡ false) where
  same_samples : (v : List ℕ) (c : ℕ) → samples_back old w h v k c ≡ samples_back new w h v k c
  unfolding samples_back list_of
  same_samples v c = ap (λ (zs : List ℤ). tile_back (scaled_by v (summed zs))) (same_list old new w h k e v c)

  pub same_word : (glass : ℕ) (q : Quants) (i : ℕ) → word_over glass old w h q k i ≡ word_over glass new w h q k i
  unfolding word_over
  same_word glass q i = rw (same_samples _ 0, same_samples _ 1, same_samples _ 2) refl

-- ---- drawn over the old picture it shows the new one

module _ (old new ks : List ℕ) (w h mode : ℕ) (q : Quants) (a : Acceptable w h old new ks) where
  -- a tile that is not listed does not differ
  left_out : (k : ℕ) → k < tiles_no w h → is_listed k ks ≡ false → changed_tile old new w h k ≡ false
  left_out k l e = by (changed_tile old new w h k) refl
    where
      by : (t : Bool) → changed_tile old new w h k ≡ t → t ≡ false
      by true c = absurd (yes_not_no (sym (a.all k l (changed_is old new w h k c)) ∙ e))
      by false c = refl

  module _ (glass : ℕ) (pic pic' : List ℕ) (r : Result ℕ Refusal) (s : ShownPicked glass new w h q (length ks) (λ (i : ℕ). get_or ks i 0) pic pic' r)
      (o : Shows glass old w h q pic) where
    word_new : (px py : ℕ) → px < w → py < h → (t : Bool) → is_listed (tile_no w px py) ks ≡ t →
        get_or pic' (py * w + px) 0 ≡ word_over glass new w h q (tile_no w px py) (64 * (py % 64) + px % 64)
    word_new px py x y true e = let z = listed_is (tile_no w px py) ks e in s.word px py x y z.place z.inside z.is
    word_new px py x y false e =
        s.others px py x y (λ i l z. yes_not_no (sym (is-listed (tile_no w px py) ks i l z) ∙ e))
        ∙
        (o px py x y
        ∙ same_word old new w h (tile_no w px py) (left_out (tile_no w px py) (tile_among new w h mode q px py x y) e) glass q (64 * (py % 64) + px % 64))

    pub now_shows : ShortShown glass new w h q (length ks) pic pic' r
    now_shows = record {
      number = s.number;
      tiles = s.tiles;
      shows = λ px py x y. word_new px py x y (is_listed (tile_no w px py) ks) refl;
      past = s.past;
      long = s.long;
    }

-- ---- the calls

module _ (c : WriteShort) (e : plan_number c.answer ≡ 0) where
  -- what the writer's 0 gives: nothing of its own, nothing of the check's, nothing of the tiles'
  own_none : 0 ≡ own_of c
  unfolding short_fault
  own_none = (both (own_of c) _ (sym e ∙ c.promise.wrote.number)).0

  later_none : (0 ≡ picks_fault c.old c.new c.width c.height c.picks)
      × (0 ≡ send_fault_picked c.index c.width c.height c.mode c.quants c.new c.picks (length c.out))
  unfolding short_fault
  later_none = both _ _ (both (own_of c) _ (sym e ∙ c.promise.wrote.number)).1

  tiles_none : 0 ≡ refusals_picked c.new c.width c.height c.mode c.quants c.picks
  unfolding send_fault_picked
  tiles_none = (both _ _ later_none.1).0

  pub checked : check_of c ≡ 0
  checked =
      let g = own_good c.width c.height c.mode c.quants c.old c.new (length c.list) (length c.scratch) own_none in
      check_passed c.width c.height c.old c.new c.picks g.pictures later_none.0

  acceptable : Acceptable c.width c.height c.old c.new c.picks
  acceptable =
      let g = own_good c.width c.height c.mode c.quants c.old c.new (length c.list) (length c.scratch) own_none in
      list_good c.width c.height c.old c.new c.picks g.pictures later_none.0

  modes : (size_good c.width c.height ≡ true) × (is_mode c.mode ≡ true)
  unfolding own_fault
  modes = mode_of c.width c.height c.mode c.quants (length c.new) (length c.list) (length c.scratch)
      (both (arg_fault_over c.width c.height c.mode c.quants (length c.new) (length c.list) (length c.scratch)) _ own_none).0

  sendable : SendablePicks c.new c.width c.height c.mode c.quants (length c.picks) (λ (i : ℕ). get_or c.picks i 0)
  unfolding refusals_picked
  sendable =
      let g = own_good c.width c.height c.mode c.quants c.old c.new (length c.list) (length c.scratch) own_none in
      record {
        picture = g.args.picture;
        luma = c.luma;
        chroma = c.chroma;
        allowed = modes.1;
        few = (list_there c.width c.height c.old c.new c.picks g.pictures later_none.0).few;
        there = acceptable.exist;
        none = λ i l. stops_none (λ (j : ℕ). tile_refusal_over c.new c.width c.height c.mode c.quants (get_or c.picks j 0)) (length c.picks) 0
            tiles_none i (omega arith) (omega arith);
      }

  pub bytes_are : take (short_count c.answer) c.out' ≡ frame_picked c.index c.width c.height c.mode c.quants c.new c.picks
  bytes_are = wrote_short_bytes _ _ c.out c.out' c.answer c.promise.wrote e

  pub leaves_showing :
      (glass : ℕ) → glass ≤ 1 → (pic : List ℕ) (y cb cr tmp : List ℤ) (pic' : List ℕ) (y' cb' cr' tmp' : List ℤ) (answer : Result ℕ Refusal)
      → length y ≡ 4096 → length cb ≡ 4096 → length cr ≡ 4096 → length tmp ≡ 4096 → c.height * c.width ≤ length pic
      → FrameRead glass (record_of glass 4 c.width c.height c.mode) (take (short_count c.answer) c.out') pic y cb cr tmp pic' y' cb' cr'
      tmp' answer
      → Shows glass c.old c.width c.height c.quants pic
      → ShortShown glass c.new c.width c.height c.quants (length c.picks) pic pic' answer
  unfolding frame_picked
  leaves_showing glass either pic y cb cr tmp pic' y' cb' cr' tmp' answer ly lb lr lt room done o =
      let d =
      subst (λ (x : List ℕ). FrameRead glass (record_of glass 4 c.width c.height c.mode) x pic y cb cr tmp pic' y' cb' cr' tmp' answer)
      bytes_are done in
      let s = shown c.new c.width c.height c.mode c.quants c.index (length c.picks) (λ (i : ℕ). get_or c.picks i 0) sendable glass
      either modes.0
      pic y cb cr tmp pic' y' cb' cr' tmp' answer ly lb lr lt room d in
      now_shows c.old c.new c.picks c.width c.height c.mode c.quants acceptable glass pic pic' answer s o
