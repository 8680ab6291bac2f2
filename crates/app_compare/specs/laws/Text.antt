-- A text made piece behind piece, and the lines of a picture's counts one after the other.
use Rattle.std.specs.Prelude.{ℕ, zero, suc, ◌+◌, ◌*◌, ◌-◌, ◌/◌, ◌%◌, ◌^◌, ◌≤◌, ◌<◌, ◌≡◌, refl, Bool, true, false, List, [], ◌∷◌, ◌++◌, length, get_or, take}
use Rattle.std.specs.Prelude.{drop, ltb, leb}
use Rattle.std.proofs.Common.{ap, sym, ◌∙◌, append_assoc, append-nil, arith, mod-eq_of_lt, pow-suc, length-append, take_at, length-take-le, lt-ltb, le-ltb}
use Rattle.std.proofs.Common.{leb-true, leb-false}
use Rattle.std.proofs.Math.Nat.{one-le-pow, pow-le-pow_right}
use Rattle.std.proofs.Math.Seq.{take-length}
use Rattle.io.specs.Digits.{hex_digit_ascii, last_digits, IsDigitCount}
use Rattle.wire.specs.Le.{patch, written}
use Rattle.wire.specs.laws.Le.{patch_written, patch_length}
use Rattle.whole.specs.Row.{◌⇒◌∣◌}
use Rattle.session.specs.Header.{tiles_over}
use Rattle.tile_diff.specs.Tiles.{lines_of}
use Rattle.tile_diff.specs.Counts.{next_tile}
use Rattle.tile_diff.specs.Text.{digits_of, decimal_of, line_text, lines_text, tiles_text, text_of}
use Rattle.tile_diff.specs.laws.Listed.{end_lines, found_lines, found_below, found_from}
use Rattle.tile_diff.specs.declared.count.Line.{Line}
use Rattle.std.specs.Prelude.{Option, Some, None}
use Rattle.tile_diff.specs.declared.pic.Verdict.{Verdict}
use Rattle.tile_diff.specs.declared.pic.Verdict.TheVariants.{Bad, Size, Tiles}
use Rattle.app_compare.specs.Text.{Texted, Put, tiles_in, lines_in, Lined}

-- ---- one piece, two pieces

pub put_copy :
    (from to text : List ℕ) (n : ℕ)
    → n + length text ≤ length from
    → to ≡ patch from n (take (length text) (drop 0 text))
    → Put from to n (n + length text) text
unfolding written
put_copy from to text n h e =
    let f : to ≡ patch from n text = e ∙ ap (patch from n) (take-length text) in
    let g : to ≡ (take n from ++ text) ++ drop (length (take n from ++ text)) from = f ∙ patch_written from text n (omega arith) in
    let l : length (take n from ++ text) ≡ n + length text =
    length-append (take n from) text ∙ ap (λ (k : ℕ). k + length text) (length-take-le n from (omega arith)) in
    record {
      end = refl;
      len = ap length f ∙ patch_length from text n h;
      text = ap (take (n + length text)) g ∙ take_at (take n from ++ text) _ (n + length text) l;
    }

pub put_two : (a b c s t : List ℕ) (n m r : ℕ) → Put a b n m s → Put b c m r t → Put a c n r (s ++ t)
put_two a b c s t n m r p q =
    record {
      end = q.end ∙ omega (arith, p.end, length-append s t);
      len = q.len ∙ p.len;
      text = q.text ∙ ap (λ (x : List ℕ). x ++ t) p.text ∙ append_assoc (take n a) s t;
    }

pub put_is : (a b s t : List ℕ) (n r : ℕ) → s ≡ t → Put a b n r s → Put a b n r t
put_is a b s t n r e p = record { end = p.end ∙ ap (λ (x : List ℕ). n + length x) e; len = p.len; text = p.text ∙ ap (λ (x : List ℕ). take n a ++ x) e }

-- ---- numbers

glyph_low : (d : ℕ) → d < 10 → hex_digit_ascii d ≡ 48 + d
glyph_low d h = rw (lt-ltb d 10 h)

-- the kit's digits are the definition's
digits_same : (most n k : ℕ) → IsDigitCount 10 1 n (suc k) → suc k ≤ most → last_digits 10 (suc k) n ≡ digits_of most n
unfolding digits_of ◌⇒◌∣◌
digits_same zero n k f h = absurd (omega arith)
digits_same (suc most) n zero f h =
    let l : n < 10 = f.1 in
    rw (mod-eq_of_lt l, lt-ltb n 10 l)
digits_same (suc most) n (suc k) f h =
    let a = pow-suc 10 k in
    let b = pow-suc 10 (suc k) in
    let o = one-le-pow k 10 (omega arith) in
    let e : suc (suc k) - 1 ≡ suc k = omega arith in
    let e' : suc k - 1 ≡ k = omega arith in
    let g : 10 ^ suc k ≤ n = rw e at (f.2 (omega arith)) in
    let l : n < 10 ^ suc (suc k) = f.1 in
    let q : IsDigitCount 10 1 (n / 10) (suc k) = (omega arith, omega arith, λ z. rw e' (omega arith)) in
    let m : n % 10 < 10 = omega arith in
    rw (le-ltb n 10 (omega arith))
    (ap (λ (x : List ℕ). x ++ (hex_digit_ascii (n % 10) ∷ [])) (digits_same most (n / 10) k q (omega arith))
    ∙ ap (λ (x : ℕ). digits_of most (n / 10) ++ (x ∷ [])) (glyph_low (n % 10) m))

pub number_text : (n k : ℕ) (text : List ℕ) → IsDigitCount 10 1 n k → k ≤ 20 → text ≡ last_digits 10 k n → text ≡ decimal_of n
number_text n zero text f h e = absurd (omega (arith, f.0))
number_text n (suc k) text f h e = e ∙ digits_same 20 n k f h

-- a machine number has at most 20 digits
pub few_digits : (n k : ℕ) → n < 18446744073709551616 → IsDigitCount 10 1 n k → k ≤ 20
few_digits n k h f = by (leb k 20) refl
  where
    by : (t : Bool) → leb k 20 ≡ t → k ≤ 20
    by true e = leb-true k 20 e
    by false e =
        let l : 20 < k = leb-false k 20 e in
        let m : 10 ^ 20 ≤ 10 ^ (k - 1) = pow-le-pow_right {n = 10} (omega arith) {i = 20} {j = k - 1} (omega arith) in
        absurd (omega (arith, f.2 (omega arith), m))

digits_length : (most n : ℕ) → length (digits_of most n) ≤ most
unfolding digits_of ◌⇒◌∣◌
digits_length zero n = omega arith
digits_length (suc most) n = by (ltb n 10) (digits_length most (n / 10))
  where
    by : (t : Bool) → length (digits_of most (n / 10)) ≤ most → length (t ⇒ (48 + n) ∷ [] ∣ digits_of most (n / 10) ++ ((48 + n % 10) ∷ [])) ≤ suc most
    by true l = omega arith
    by false l = simp length-append (omega arith)

decimal_length : (n : ℕ) → length (decimal_of n) ≤ 20
decimal_length n = digits_length 20 n

-- ---- a line, and the last line

pub line-text : (l : Line) → (decimal_of l.x ++ (32 ∷ [])) ++ ((decimal_of l.y ++ (32 ∷ [])) ++ (decimal_of l.n ++ (10 ∷ []))) ≡ line_text l
unfolding line_text
line-text l = simp append_assoc

pub tiles-text : (t : ℕ) → (116 ∷ 105 ∷ 108 ∷ 101 ∷ 115 ∷ 32 ∷ []) ++ (decimal_of t ++ (10 ∷ [])) ≡ tiles_text t
unfolding tiles_text
tiles-text t = refl

-- ---- line after line: n bytes and t lines are there, and the lines from tile k on are still to come

abbrev pub lines_from : List ℕ → ℕ → ℕ → ℕ → List Line
lines_from cs w h k = lines_of (λ j. get_or cs j 0) (tiles_over w) (tiles_in w h - k) k

pub record Lining (cs : List ℕ) (w h : ℕ) (out : List ℕ) (n t k : ℕ) : Type 0 where
  pub within : k ≤ tiles_in w h
  pub few : tiles_in w h ≤ 2048
  pub fewer : t ≤ k
  pub room : n ≤ 63 * t
  pub len : length out ≡ 131072
  pub lines : t + length (lines_from cs w h k) ≡ length (lines_in cs w h)
  pub text : take n out ++ lines_text (lines_from cs w h k) ≡ lines_text (lines_in cs w h)

pub lining_none : (cs : List ℕ) (w h : ℕ) (out : List ℕ) → tiles_in w h ≤ 2048 → length out ≡ 131072 → Lining cs w h out 0 0 0
lining_none cs w h out f l =
    let e : tiles_in w h - 0 ≡ tiles_in w h = omega arith in
    let g : lines_from cs w h 0 ≡ lines_in cs w h = ap (λ (n : ℕ). lines_of (λ j. get_or cs j 0) (tiles_over w) n 0) e in
    record { within = omega arith; few = f; fewer = omega arith; room = omega arith; len = l; lines = omega (arith, ap length g); text = ap lines_text g }

-- one line more, of tile j
pub record Next (cs : List ℕ) (w h : ℕ) (out : List ℕ) (n t k j : ℕ) : Type 0 where
  pub before : k ≤ j
  pub below : j < tiles_in w h
  pub room : n + 63 ≤ length out
  pub few : t < 2048
  pub less : tiles_in w h - (j + 1) < tiles_in w h - k

pub lining_next :
    {cs : List ℕ} {w h : ℕ} {out : List ℕ} {n t k j : ℕ} {l : Line} → Lining cs w h out n t k → next_tile cs w h k ≡ Some (j, l) → Next cs w h out n t k j
unfolding next_tile
lining_next {cs} {w} {h} {out} {n} {t} {k} {j} {l} s e =
    let sum : k + (tiles_in w h - k) ≡ tiles_in w h = omega (arith, s.within) in
    let b : j < tiles_in w h = found_below cs (tiles_over w) (tiles_in w h) (tiles_in w h - k) k j l sum e in
    let f : k ≤ j = found_from cs (tiles_over w) (tiles_in w h - k) k j l e in
    record { before = f; below = b; room = omega arith; few = omega arith; less = omega arith }

pub lining_more :
    {cs : List ℕ} {w h : ℕ} {out to : List ℕ} {n r t k j : ℕ} {l : Line}
    → Lining cs w h out n t k
    → next_tile cs w h k ≡ Some (j, l)
    → Put out to n r (line_text l)
    → r ≤ n + 63
    → Lining cs w h to r (t + 1) (j + 1)
unfolding next_tile lines_text
lining_more {cs} {w} {h} {out} {to} {n} {r} {t} {k} {j} {l} s e p q =
    let sum : k + (tiles_in w h - k) ≡ tiles_in w h = omega (arith, s.within) in
    let x : Next cs w h out n t k j = lining_next s e in
    let g = found_lines cs (tiles_over w) (tiles_in w h) (tiles_in w h - k) k j l sum e in
    record {
      within = omega (arith, x.below);
      few = s.few;
      fewer = omega (arith, s.fewer, x.before);
      room = omega (arith, s.room);
      len = p.len ∙ s.len;
      lines = omega (arith, ap length g, s.lines);
      text =
          ap (λ (y : List ℕ). y ++ lines_text (lines_from cs w h (j + 1))) p.text
          ∙ append_assoc (take n out) (line_text l) (lines_text (lines_from cs w h (j + 1)))
          ∙ ap (λ (y : List Line). take n out ++ lines_text y) (sym g)
          ∙ s.text;
    }

pub lining_all :
    {cs : List ℕ} {w h : ℕ} {out : List ℕ} {n t k : ℕ} → Lining cs w h out n t k → next_tile cs w h k ≡ None → Lined (lines_in cs w h) out n t
unfolding next_tile lines_text
lining_all {cs} {w} {h} {out} {n} {t} {k} s e =
    let g = end_lines cs (tiles_over w) (tiles_in w h - k) k e in
    record {
      lines = omega (arith, ap length g, s.lines);
      fits = omega (arith, s.room, s.fewer, s.within, s.few);
      text = sym (append-nil (take n out)) ∙ ap (λ (y : List Line). take n out ++ lines_text y) (sym g) ∙ s.text;
    }

-- ---- the three texts

tiles_length : (t : ℕ) → length (tiles_text t) ≤ 27
unfolding tiles_text
tiles_length t = let l = decimal_length t in simp length-append (omega arith)

pub texted_tiles :
    (ls : List Line) (out to : List ℕ) (n t r : ℕ)
    → length out ≡ 131072
    → Lined ls out n t
    → Put out to n r (tiles_text t)
    → Texted to r (text_of Tiles ls)
unfolding text_of
texted_tiles ls out to n t r l d p =
    record {
      fits = omega (arith, p.end, p.len, d.fits, tiles_length t);
      text = p.text ∙ ap (λ (x : List ℕ). x ++ tiles_text t) d.text ∙ ap (λ (x : ℕ). lines_text ls ++ tiles_text x) d.lines;
    }

pub texted_bad : (ls : List Line) (out to : List ℕ) (r : ℕ) → length out ≡ 131072 → Put out to 0 r (98 ∷ 97 ∷ 100 ∷ 10 ∷ []) → Texted to r (text_of Bad ls)
unfolding text_of
texted_bad ls out to r l p = record { fits = omega (arith, p.end, p.len); text = p.text }

pub texted_size :
    (ls : List Line) (out to : List ℕ) (r : ℕ) → length out ≡ 131072 → Put out to 0 r (115 ∷ 105 ∷ 122 ∷ 101 ∷ 10 ∷ []) → Texted to r (text_of Size ls)
unfolding text_of
texted_size ls out to r l p = record { fits = omega (arith, p.end, p.len); text = p.text }

-- the verdict is one of the three
pub texted_way : (u v : Verdict) (ls : List Line) (to : List ℕ) (r : ℕ) → v ≡ u → Texted to r (text_of u ls) → Texted to r (text_of v ls)
texted_way u v ls to r e d = record { fits = d.fits; text = d.text ∙ ap (λ (x : Verdict). text_of x ls) (sym e) }
