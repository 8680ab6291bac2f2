-- A region's rectangles against a tile's columns, the form of the code: its columns as the bits of a number, and its rows; kept as four numbers in a
-- list of signed numbers, two of them for the bits. laws/Mask shows that it lies on a row and has bit x set exactly if it holds word x there.
use Rattle.std.specs.Prelude.{ℕ, ◌+◌, ◌*◌, ◌-◌, ◌/◌, ◌%◌, ◌≤◌, ◌<◌, min, ◌≡◌, List, Bool, false, ltb, leb, ℤ, pos, nat_abs, ◌+ℤ◌, ◌-ℤ◌, length, set}
use Rattle.wire.specs.Le.{le16}
use Rattle.whole.specs.Row.{◌!◌⨾◌}
use Rattle.whole.specs.Tab.{at}
use Rattle.frame_draw.specs.declared.clip.Clip.{Clip}
use Rattle.frame_draw.specs.Spans.{part_of, mask_of}

-- of the part of a tile's columns that begins at column a
unfoldable pub clip_in : ℕ → ℕ → ℕ → ℕ → ℕ → ℕ → Clip
clip_in x y w h a part = record { mask = mask_of (x - a) (min part (x + w - a)); top = y; end = y + h }

-- rectangle k of the region's bytes
unfoldable pub clip_of : List ℕ → ℕ → ℕ → ℕ → Clip
clip_of rects a part k = clip_in (le16 rects (8 * k)) (le16 rects (8 * k + 2)) (le16 rects (8 * k + 4)) (le16 rects (8 * k + 6)) a part

-- it lies on pixel row py
unfoldable pub on_row : Clip → ℕ → Bool
on_row c py = leb c.top py ! false ⨾ ltb py c.end

-- ---- kept in a list

-- 32 bits as a signed number of as many: 2^31 less; and back
abbrev pub half_in : ℕ → ℤ
half_in n = pos n -ℤ pos 2147483648

abbrev pub half_of : ℤ → ℕ
half_of z = nat_abs (z +ℤ pos 2147483648)

-- the k-th that a list holds
abbrev pub clip_at : List ℤ → ℕ → Clip
clip_at zs k =
    record {
      mask = half_of (at zs (4 * k + 1)) * 4294967296 + half_of (at zs (4 * k));
      top = nat_abs (at zs (4 * k + 2));
      end = nat_abs (at zs (4 * k + 3));
    }

-- the list with one put in
abbrev pub with_clip : ℕ → Clip → List ℤ → List ℤ
with_clip k c zs =
    set
    (set (set (set zs (4 * k) (half_in (c.mask % 4294967296))) (4 * k + 1) (half_in (c.mask / 4294967296))) (4 * k + 2) (pos c.top))
    (4 * k + 3) (pos c.end)

-- a list holds c as its k-th
pub record Clipped (c : Clip) (k : ℕ) (zs : List ℤ) : Type 0 where
  pub low : at zs (4 * k) ≡ half_in (c.mask % 4294967296)
  pub high : at zs (4 * k + 1) ≡ half_in (c.mask / 4294967296)
  pub top : at zs (4 * k + 2) ≡ pos c.top
  pub end : at zs (4 * k + 3) ≡ pos c.end

-- its numbers are in range of the list's
pub record SmallClip (c : Clip) : Type 0 where
  pub mask : c.mask < 18446744073709551616
  pub top : c.top < 65536
  pub end : c.end < 131072

-- a list holds the first n rectangles, against the tile in column tx of a channel of width w
pub record Clips (rects : List ℕ) (n w tx : ℕ) (zs : List ℤ) : Type 0 where
  pub room : 4 * n ≤ length zs
  pub each : (k : ℕ) → k < n → Clipped (clip_of rects (64 * tx) (part_of w tx) k) k zs
