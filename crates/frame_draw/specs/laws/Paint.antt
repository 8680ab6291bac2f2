-- Laws of the loops that carry the picture, of words of any size: what is drawn of a row, of a tile and of a frame so far, and one step more.
-- `paint` cites them of the words' numbers, and says nothing else.
-- Assumes nothing.
use Rattle.std.specs.Prelude.{ℕ, ◌+◌, ◌*◌, ◌-◌, ◌/◌, ◌%◌, ◌^◌, ◌≤◌, ◌<◌, ◌≡◌, refl, List, ℤ, get_or, set, map}
use Rattle.std.proofs.Math.Path.{ap, sym}
use Rattle.std.proofs.Common.{◌∙◌, arith, length-set, eq-eqb, ne_eqb}
use Rattle.std.proofs.Math.Nat.{sub-zero}
use Rattle.std.proofs.Math.ListN.{length}
use Rattle.std.proofs.lemmas.List.{map-set, get_or-map}
use Rattle.whole.specs.laws.Row.{case_yes, case_no}
use Rattle.frame_layout.specs.Bytes.{Tile}
use Rattle.frame_layout.specs.Reader.{tiles_fault, tiles_in, tile_at, data_of, size_at, set_at, rect_count, quant_count, tile_count}
use Rattle.frame_blocks.specs.Blocks.{rects_of}
use Rattle.frame_blocks.specs.Tiles.{TileSound}
use Rattle.frame_blocks.specs.laws.Tiles.{walk_sound}
use Rattle.frame_blocks.specs.Judged.{in_set}
use Rattle.tile_back.specs.Word.{word_at, WordsRow}
use Rattle.frame_draw.specs.declared.row.Spot.{Spot}
use Rattle.frame_draw.specs.Draw.{stores, row_place, row_drawn, rows_drawn, tile_drawn}
use Rattle.frame_draw.specs.laws.Draw.{store_step, store_none, stores_same, row_length, rows_next, rows_done}
use Rattle.frame_draw.specs.Spans.{always, part_of, bit_at, mask_of, InChannel, RowMask}
use Rattle.frame_draw.specs.laws.Mask.{mask_drawn, none_drawn, mask_whole}
use Rattle.frame_draw.specs.Shown.{tiles_drawn}
use Rattle.frame_draw.specs.Show.{Lists, Ready, tile_word}
use Rattle.frame_draw.specs.laws.Show.{shown_next, shown_none, ready_drawn, data_short}

-- ---- a row

-- a word of a row put into the picture, by the words' numbers
pub number_put :
    {W : Type 0} (number : W → ℕ) (pic row : List W) (place x : ℕ) (v : W) → x < length row → v ≡ get_or row x v →
    map number (set pic place v) ≡ set (map number pic) place (get_or (map number row) x 0)
number_put number pic row place x v l e =
    map-set number pic place v ∙ ap (set (map number pic) place) (ap number e ∙ sym (get_or-map number row x v 0 l))

-- of a row's words those before x are in the picture, where their bits are set
pub record Putting (mask : ℕ) (row : List ℕ) (w tx py : ℕ) (first : List ℕ) (x : ℕ) (pic : List ℕ) : Type 0 where
  pub most : x ≤ 64
  pub len : length pic ≡ length first
  pub left :
      stores (bit_at mask) (row_place w tx py) (λ (j : ℕ). get_or row j 0) 64 0 first
      ≡ stores (bit_at mask) (row_place w tx py) (λ (j : ℕ). get_or row j 0) (64 - x) x pic

module _ (mask : ℕ) (row : List ℕ) (w tx py : ℕ) where
  pub put_none : (pic : List ℕ) → Putting mask row w tx py pic 0 pic
  put_none pic = record { most = omega arith; len = refl; left = rw sub-zero }

  module _ (first : List ℕ) (x : ℕ) (pic then : List ℕ) (g : Putting mask row w tx py first x pic) (l : x < 64) where
    pub put_in :
        mask / 2 ^ x % 2 ≡ 1 → then ≡ set pic (py * w + (64 * tx + x)) (get_or row x 0) → Putting mask row w tx py first (x + 1) then
    unfolding bit_at row_place
    put_in h t =
        record {
          most = omega arith;
          len = ap length t ∙ (length-set pic _ _ ∙ g.len);
          left = g.left ∙ (store_step _ _ _ 64 x pic l ∙ ap (stores _ _ _ _ _) (sym (case_yes _ _ _ _ (eq-eqb _ 1 h) t)));
        }

    pub put_out : (mask / 2 ^ x % 2 ≡ 1 → ⊥) → then ≡ pic → Putting mask row w tx py first (x + 1) then
    unfolding bit_at
    put_out h t =
        record {
          most = omega arith;
          len = ap length t ∙ g.len;
          left = g.left ∙ (store_step _ _ _ 64 x pic l ∙ ap (stores _ _ _ _ _) (sym (case_no _ _ _ _ (ne_eqb _ 1 h) t)));
        }

  -- the whole row, by its words: put one by one, or, where all of its part is drawn, that part
  module _ (glass : ℕ) (ys cbs crs : List ℤ) (y : ℕ) (first last : List ℕ) (words : WordsRow glass ys cbs crs y row) where
    by_words :
        last ≡ stores (bit_at mask) (row_place w tx py) (λ (x : ℕ). get_or row x 0) 64 0 first →
        last ≡ stores (bit_at mask) (row_place w tx py) (λ (x : ℕ). word_at glass ys cbs crs (64 * y + x)) 64 0 first
    by_words e = e ∙ stores_same _ _ _ _ 64 0 first words.word

    pub put_all :
        (x : ℕ) → Putting mask row w tx py first x last → 64 ≤ x →
        last ≡ stores (bit_at mask) (row_place w tx py) (λ (x : ℕ). word_at glass ys cbs crs (64 * y + x)) 64 0 first
    put_all x g h = by_words (sym (g.left ∙ store_none _ _ _ 64 x last h))

    pub put_whole :
        mask ≡ mask_of 0 (part_of w tx) → last ≡ stores always (row_place w tx py) (λ (x : ℕ). get_or row x 0) (part_of w tx) 0 first →
        last ≡ stores (bit_at mask) (row_place w tx py) (λ (x : ℕ). word_at glass ys cbs crs (64 * y + x)) 64 0 first
    put_whole h e = by_words (e ∙ mask_whole _ _ _ _ _ (omega arith) h)

-- a word that is stored lies in the channel
pub put_place : (w tx mask x : ℕ) → InChannel w tx mask → x < 64 → mask / 2 ^ x % 2 ≡ 1 → 64 * tx + x < w
unfolding bit_at
put_place w tx mask x g l h = g.most x l (eq-eqb _ 1 h)

-- ---- a tile

-- of a tile's rows those before y are in the picture; val gives the word of each of its places
pub record Painting (rects : List ℕ) (n : ℕ) (val : ℕ → ℕ) (w h tx ty : ℕ) (first : List ℕ) (y : ℕ) (pic : List ℕ) : Type 0 where
  pub most : y ≤ 64
  pub len : length pic ≡ length first
  pub left : rows_drawn rects n val w h tx ty 64 0 first ≡ rows_drawn rects n val w h tx ty (64 - y) y pic

module _ (rects : List ℕ) (n : ℕ) (val : ℕ → ℕ) (w h tx ty : ℕ) where
  pub paint_none : (pic : List ℕ) → Painting rects n val w h tx ty pic 0 pic
  paint_none pic = record { most = omega arith; len = refl; left = rw sub-zero }

  module _ (first : List ℕ) (y : ℕ) (pic then : List ℕ) (g : Painting rects n val w h tx ty first y pic) (rows : ℕ)
      (part : rows ≡ part_of h ty) (l : y < rows) where
    one_row : then ≡ row_drawn rects n (λ (x : ℕ). val (64 * y + x)) w tx (64 * ty + y) pic → Painting rects n val w h tx ty first (y + 1) then
    one_row e =
        record {
          most = omega arith;
          len = ap length e ∙ (row_length rects n _ w tx (64 * ty + y) pic ∙ g.len);
          left = g.left ∙ rows_next rects n val w h tx ty y pic then (omega arith) (omega arith) e;
        }

    module _ (mask : ℕ) (masked : RowMask rects n w tx (64 * ty + y) mask) where
      pub paint-row :
          then ≡ stores (bit_at mask) (row_place w tx (64 * ty + y)) (λ (x : ℕ). val (64 * y + x)) 64 0 pic → Painting rects n val w h tx ty first (y + 1) then
      paint-row e = one_row (e ∙ mask_drawn rects w tx (64 * ty + y) n mask masked _ pic)

      pub paint_missed : mask ≡ 0 → then ≡ pic → Painting rects n val w h tx ty first (y + 1) then
      paint_missed o e = one_row (e ∙ none_drawn rects w tx (64 * ty + y) n mask masked _ pic o)

  pub paint_all :
      (first : List ℕ) (y : ℕ) (last : List ℕ) → Painting rects n val w h tx ty first y last → (rows : ℕ) → rows ≡ part_of h ty → rows ≤ y →
      last ≡ tile_drawn rects n val w h tx ty first
  unfolding tile_drawn
  paint_all first y last g rows part l = sym (g.left ∙ rows_done rects n val w h tx ty y last (omega arith))

-- ---- a frame

-- of a frame's n tiles the first i are in the picture, the next one begins at a place of the tileset's data, and those left have no fault
pub record Showing (glass mode : ℕ) (m : List ℕ) (sp w h n : ℕ) (first : List ℕ) (at i : ℕ) (pic : List ℕ) (ys cbs crs tmp : List ℤ) : Type 0 where
  pub most : i ≤ n
  pub there : at ≤ length (data_of m sp)
  pub sound : 0 ≡ tiles_fault (in_set mode m sp) w h (quant_count m sp) (data_of m sp) (n - i) at
  pub len : length pic ≡ length first
  pub lists : Lists ys cbs crs tmp
  pub left :
      tiles_drawn (rects_of m 14) (rect_count m 14) (tile_word glass mode (set_at m sp)) w h (tiles_in (data_of m sp) n 0) first
      ≡ tiles_drawn (rects_of m 14) (rect_count m 14) (tile_word glass mode (set_at m sp)) w h (tiles_in (data_of m sp) (n - i) at) pic

module _ (glass mode : ℕ) (m : List ℕ) (sp w h n : ℕ) (first : List ℕ) where
  pub show_none :
      (ys cbs crs tmp : List ℤ) → Lists ys cbs crs tmp → n ≡ tile_count m sp →
      0 ≡ tiles_fault (in_set mode m sp) w h (quant_count m sp) (data_of m sp) (tile_count m sp) 0 → Showing glass mode m sp w h n first 0 0 first ys cbs crs
      tmp
  show_none ys cbs crs tmp k c e =
      record { most = omega arith; there = omega arith; sound = rw (sub-zero, c) e; len = refl; lists = k; left = rw sub-zero }

  module _ (at i : ℕ) (pic : List ℕ) (ys cbs crs tmp : List ℤ) (g : Showing glass mode m sp w h n first at i pic ys cbs crs tmp) where
    -- a tile is left: it is sound, and nothing is wrong in the rest
    pub show_here :
        i < n →
        TileSound (in_set mode m sp) (quant_count m sp) (data_of m sp) at
        × (0 ≡ tiles_fault (in_set mode m sp) w h (quant_count m sp) (data_of m sp) (n - (i + 1)) (at + size_at (data_of m sp) at))
    show_here l = walk_sound _ w h _ (data_of m sp) n i at l g.there g.sound

    -- how far its bytes reach
    pub show_reach : i < n → (at + 6 ≤ length m) × (at + 6 ≤ length (data_of m sp)) × (at + size_at (data_of m sp) at ≤ length m)
    show_reach l =
        let t = (show_here l).0.good.whole in
        let d = data_short m sp in
        (omega (arith, t), omega (arith, t), omega (arith, t))

    -- it was made ready: it fits the picture
    pub show_room :
        (t : Tile) (ys' cbs' crs' tmp' : List ℤ) (s : Spot) → Ready mode m sp w h t ys' cbs' crs' tmp' s → h * w ≤ length first → s.h * s.w ≤ length pic
    show_room t ys' cbs' crs' tmp' s r k = rw (r.h_is, r.w_is, g.len) k

    -- .. and drawn
    pub show_next :
        (rects then : List ℕ) (size : ℕ) (ys' cbs' crs' tmp' : List ℤ) (s : Spot) → i < n → Lists ys' cbs' crs' tmp' → size ≡ size_at (data_of m sp) at →
        Ready mode m sp w h (tile_at (data_of m sp) at) ys' cbs' crs' tmp' s → rects ≡ rects_of m 14 → length then ≡ length pic →
        then ≡ tile_drawn rects s.n (word_at glass ys' cbs' crs') s.w s.h s.tx s.ty pic →
        Showing glass mode m sp w h n first (at + size) (i + 1) then ys' cbs' crs' tmp'
    show_next rects then size ys' cbs' crs' tmp' s l k z r f len e =
        let here = show_here l in
        record {
          most = omega arith;
          there = omega (arith, here.0.good.whole);
          sound = rw z here.1;
          len = len ∙ g.len;
          lists = k;
          left = g.left ∙ shown_next _ _ _ _ _ _ n i at pic then size l (ready_drawn glass mode m sp w h _ ys' cbs' crs' tmp' s rects pic then r f e) z;
        }

    pub show_all :
        n ≤ i → n ≡ tile_count m sp →
        pic ≡ tiles_drawn (rects_of m 14) (rect_count m 14) (tile_word glass mode (set_at m sp)) w h (tiles_in (data_of m sp) (tile_count m sp) 0) first
    show_all l c =
        sym (g.left ∙ shown_none _ _ _ _ _ _ n i at pic l)
        ∙ ap (λ (z : ℕ). tiles_drawn (rects_of m 14) (rect_count m 14) (tile_word glass mode (set_at m sp)) w h (tiles_in (data_of m sp) z 0) first) c
