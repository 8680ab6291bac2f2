-- Laws of the draw pass.
use Prim.Native.Nat.{ℕ, suc, ◌+◌, ◌*◌, ◌-◌, ◌≤◌, ◌<◌}
use Rattle.std.specs.Prelude.{◌≡◌, List, ℤ, length}
use Rattle.std.proofs.Math.Path.{refl}
use Rattle.std.proofs.Common.{sym, subst, ◌∙◌, length-take, length-drop}
use native.Mathlib.Omega.{arith}
use Rattle.frame_layout.specs.Bytes.{Tile}
use Rattle.frame_layout.specs.Reader.{tile_at, data_of, tiles_in, size_at, set_at, rect_count}
use Rattle.frame_blocks.specs.Blocks.{rects_of, RegionGood}
use Rattle.bands.specs.Bands.{quant_of}
use Rattle.frame_draw.specs.Draw.{tile_drawn}
use Rattle.frame_draw.specs.Shown.{tiles_drawn}
use Rattle.tile_back.specs.Word.{Plane, word_at}
use Rattle.tile_back.specs.laws.Word.{samples_plane}
use Rattle.frame_blocks.specs.Tiles.{index_of, code_part, TileSound}
use Rattle.frame_blocks.specs.laws.Tiles.{sound_part}
use Rattle.frame_blocks.specs.Judged.{judged, in_set}
use Rattle.frame_draw.specs.Show.{Lists, Sampled, Ready, plane_of, tile_word}
use Rattle.frame_draw.specs.Clips.{Clips}
use Rattle.frame_draw.specs.Spans.{asked}
use Rattle.frame_draw.specs.laws.Asked.{asked_same}
use Rattle.frame_draw.specs.declared.row.Spot.{Spot}

pub lists_kept :
    (y cb cr tmp y' cb' cr' tmp' : List ℤ) → Lists y cb cr tmp → length y' ≡ length y → length cb' ≡ length cb → length cr' ≡ length cr →
    length tmp' ≡ length tmp → Lists y' cb' cr' tmp'
lists_kept y cb cr tmp y' cb' cr' tmp' l a b c t = record { y_len = a ∙ l.y_len; cb_len = b ∙ l.cb_len; cr_len = c ∙ l.cr_len; tmp_len = t ∙ l.tmp_len }

-- the samples of a sound component are a plane
pub part_plane :
    (mode : ℕ) (m : List ℕ) (sp q : ℕ) (d : List ℕ) (at k : ℕ) (xs : List ℤ) → TileSound (in_set mode m sp) q d at → k < 3 →
    xs ≡ plane_of mode (set_at m sp) (tile_at d at) k → Plane xs
unfolding plane_of in_set judged
part_plane mode m sp q d at k xs s l e =
    subst Plane (sym e)
    (samples_plane mode (quant_of (set_at m sp (index_of (tile_at d at) k))) (code_part (tile_at d at) k) (sound_part (in_set mode m sp) q d at k s l))

-- a tile made ready: from its samples, the region as it was taken, and where it lies
pub ready_made :
    (mode : ℕ) (m : List ℕ) (sp w h q at : ℕ) (y cb cr tmp : List ℤ) (rects : List ℕ) (k tx ty n : ℕ) → TileSound (in_set mode m sp) q (data_of m sp) at →
    Sampled mode (set_at m sp) (tile_at (data_of m sp) at) y cb cr → rects ≡ rects_of m 14 → k ≡ rect_count m 14 → tx ≡ (tile_at (data_of m sp) at).x →
    ty ≡ (tile_at (data_of m sp) at).y → tx < 65536 → ty < 65536 → n ≡ asked rects k w h tx ty → Clips rects n w tx tmp →
    Ready mode m sp w h (tile_at (data_of m sp) at) y cb cr tmp (record { w = w; h = h; tx = tx; ty = ty; n = n })
ready_made mode m sp w h q at y cb cr tmp rects k tx ty n t s r c x' y' xs ys e g =
    let plane = part_plane mode m sp q (data_of m sp) at in
    record {
      sampled = s;
      y_plane = plane 0 y t (omega arith) s.y_is;
      cb_plane = plane 1 cb t (omega arith) s.cb_is;
      cr_plane = plane 2 cr t (omega arith) s.cr_is;
      w_is = refl;
      h_is = refl;
      tx_is = x';
      ty_is = y';
      x_small = xs;
      y_small = ys;
      held = e ∙ rw (r, c);
      clips = subst (λ (z : List ℕ). Clips z n w tx tmp) r g;
    }

-- its rectangles, in the region as it was taken
pub ready_clips :
    (mode : ℕ) (m : List ℕ) (sp w h : ℕ) (t : Tile) (y cb cr tmp : List ℤ) (s : Spot) (rects : List ℕ) → Ready mode m sp w h t y cb cr tmp s →
    rects ≡ rects_of m 14 → Clips rects s.n s.w s.tx tmp
ready_clips mode m sp w h t y cb cr tmp s rects g r = subst (λ (z : List ℕ). Clips z s.n s.w s.tx tmp) (sym r) g.clips

-- a tile that was made ready, drawn from its lists: the tile, in the region of the message
pub ready_drawn :
    (glass mode : ℕ) (m : List ℕ) (sp w h : ℕ) (t : Tile) (y cb cr tmp : List ℤ) (s : Spot) (rects pic last : List ℕ) → Ready mode m sp w h t y cb cr tmp s →
    rects ≡ rects_of m 14 → last ≡ tile_drawn rects s.n (word_at glass y cb cr) s.w s.h s.tx s.ty pic →
    last ≡ tile_drawn (rects_of m 14) (rect_count m 14) (tile_word glass mode (set_at m sp) t) w h t.x t.y pic
unfolding tile_word
ready_drawn glass mode m sp w h t y cb cr tmp s rects pic last g r e =
    let a = asked_same (rects_of m 14) (rect_count m 14) s.w s.h s.tx s.ty s.n g.held (word_at glass y cb cr) pic in
    cc (e, r, a, g.sampled.y_is, g.sampled.cb_is, g.sampled.cr_is, g.w_is, g.h_is, g.tx_is, g.ty_is)

module _ (rects : List ℕ) (nr : ℕ) (words : Tile → ℕ → ℕ) (w h : ℕ) (d : List ℕ) where
  -- a loop over the tiles, against the list of what is left
  pub shown_next :
      (n i at : ℕ) (pic last : List ℕ) (size : ℕ) → i < n → last ≡ tile_drawn rects nr (words (tile_at d at)) w h (tile_at d at).x (tile_at d at).y pic →
      size ≡ size_at d at →
      tiles_drawn rects nr words w h (tiles_in d (n - i) at) pic ≡ tiles_drawn rects nr words w h (tiles_in d (n - (i + 1)) (at + size)) last
  unfolding tiles_drawn tiles_in
  shown_next n i at pic last size l e s = let a : n - i ≡ suc (n - (i + 1)) = omega arith in rw (a, e, s)

  pub shown_none : (n i at : ℕ) (pic : List ℕ) → n ≤ i → tiles_drawn rects nr words w h (tiles_in d (n - i) at) pic ≡ pic
  unfolding tiles_drawn tiles_in
  shown_none n i at pic l = let z : n - i ≡ 0 = omega arith in rw z refl

-- a tileset's data are no longer than the message
pub data_short : (m : List ℕ) (sp : ℕ) → length (data_of m sp) ≤ length m
unfolding data_of
data_short m sp = simp (length-take, length-drop) (omega arith)

-- the rectangles of a checked region are all there
pub rects_length : (m : List ℕ) (at : ℕ) → RegionGood m at → length (rects_of m at) ≡ 8 * rect_count m at
unfolding rects_of
rects_length m at g = simp (length-take, length-drop) (omega (arith, g.there, g.size))
