-- The head of a binary PPM: "P6", width, height and the largest value in decimal digits, each behind blanks or comments ('#' to the end of its line), then one
-- blank; the pixels follow.
use Rattle.std.specs.Prelude.{ℕ, zero, suc, ◌+◌, ◌-◌, ◌*◌, Bool, true, false, List, length, ⊤, ◌==◌, nat_eq, nat_le, nat_lt}
use Rattle.std.specs.Prelude.{Option, Some, None, Result, Ok, Err}
use Rattle.std.specs.Option.{option_map_or}
use Rattle.wire.specs.Le.{byte_at}
use Rattle.whole.specs.Row.{◌!◌⨾◌, ◌⇒◌∣◌}
use Rattle.app_pictures.specs.declared.ppm.Figure.{Figure}
use Rattle.app_pictures.specs.declared.ppm.Head.{Head}
use Rattle.app_pictures.specs.declared.ppm.Unfit.{Unfit}
use Rattle.app_pictures.specs.declared.ppm.Unfit.TheVariants.{Kind, Unread, Largest, Size, Pixels, Few, Many}
use Rattle.app_pictures.specs.declared.ppm.Skipped.{Skipped}
use Rattle.app_pictures.specs.declared.ppm.Skipped.TheVariants.{Blank, Comment}

-- the number of each fault
abbrev pub unfit_number : Unfit → ℕ
unfit_number Kind = 1
unfit_number Unread = 2
unfit_number Largest = 3
unfit_number Size = 4
unfit_number Pixels = 5
unfit_number Few = 6
unfit_number Many = 7

-- what follows where a step goes well; else its fault
abbrev pub then_by : {A B : Type 0} → Result A Unfit → (A → Result B Unfit) → Result B Unfit
then_by (Ok x) f = f x
then_by (Err why) f = Err why

unfoldable pub is_digit : ℕ → Bool
is_digit b = nat_le 48 b ! false ⨾ nat_le b 57

-- tab, the ends of line and of page, and the blank itself
unfoldable pub is_blank : ℕ → Bool
is_blank b =
    nat_le 9 b ! false ⨾
    nat_le b 13 ⇒ true ∣
    (b == 32)

-- a number with a digit more; what is 2^32 or above stays 2^32
unfoldable pub more_of : ℕ → ℕ → ℕ
more_of v d =
    nat_le v 4294967295 ! 4294967296 ⨾
    nat_le (10 * v + d) 4294967295 ! 4294967296 ⨾
    10 * v + d

abbrev pub figure : ℕ → ℕ → Figure
figure v at = record { value = v; at = at }

-- the digits among the next so many bytes, behind those that made v
unfoldable pub digits_from : List ℕ → ℕ → ℕ → ℕ → Figure
digits_from m zero v at = figure v at
digits_from m (suc n) v at = is_digit (byte_at m at) ! figure v at ⨾ digits_from m n (more_of v (byte_at m at - 48)) (at + 1)

-- the digits from a place on, as a number, and the place behind them
unfoldable pub figure_at : List ℕ → ℕ → Figure
figure_at m at = digits_from m (length m - at) 0 at

-- where a byte leaves the skipping: in a comment, which ends with its line, among blanks, or nowhere: it is neither
unfoldable pub after_of : Skipped → ℕ → Option Skipped
after_of Comment b = nat_eq b 10 ⇒ Some Blank ∣ Some Comment
after_of Blank b =
    is_blank b ⇒ Some Blank ∣
    nat_eq b 35 ⇒ Some Comment ∣
    None

unfoldable pub skip_from : List ℕ → ℕ → Skipped → ℕ → ℕ
skip_from m zero state at = at
skip_from m (suc n) state at = option_map_or (λ (next : Skipped). skip_from m n next (at + 1)) (after_of state (byte_at m at)) at

-- the first place from one on that is neither blank nor comment
unfoldable pub skip_at : List ℕ → ℕ → ℕ
skip_at m at = skip_from m (length m - at) Blank at

-- a number of the head: a blank or a comment before it, and at least one digit
unfoldable pub field_of : ℕ → ℕ → Figure → Result Figure Unfit
field_of from start f =
    nat_lt from start ! Err Unread ⨾
    nat_lt start f.at ! Err Unread ⨾
    Ok f

unfoldable pub field_at : List ℕ → ℕ → Result Figure Unfit
field_at m from = field_of from (skip_at m from) (figure_at m (skip_at m from))

unfoldable pub is_p6 : List ℕ → Bool
is_p6 m =
    nat_le 2 (length m) ! false ⨾
    nat_eq (byte_at m 0) 0x50 ! false ⨾
    (byte_at m 1 == 0x36)

unfoldable pub blank_at : List ℕ → ℕ → Bool
blank_at m at = nat_lt at (length m) ! false ⨾ is_blank (byte_at m at)

-- the largest value, 255, and the blank behind it
unfoldable pub closed_of : List ℕ → ℕ → ℕ → Figure → Result Head Unfit
closed_of m width height most =
    blank_at m most.at ! Err Unread ⨾
    nat_eq most.value 255 ! Err Largest ⨾
    Ok (record { width = width; height = height; at = most.at + 1 })

-- the whole head: width, height, the place of the first pixel; or it is another kind of file
unfoldable pub head_of : List ℕ → Result Head Unfit
head_of m =
    is_p6 m ! Err Kind ⨾
    then_by (field_at m 2) λ w.
    then_by (field_at m w.at) λ h.
    then_by (field_at m h.at) (closed_of m w.value h.value)

-- "1..4096 x 1..2048", and at most 2^20 pixels, for which the program has room
unfoldable pub size_fault : ℕ → ℕ → Result ⊤ Unfit
size_fault width height =
    nat_le 1 width ! Err Size ⨾
    nat_le width 4096 ! Err Size ⨾
    nat_le 1 height ! Err Size ⨾
    nat_le height 2048 ! Err Size ⨾
    nat_le (width * height) 1048576 ! Err Pixels ⨾
    Ok tt

-- the bytes from a place to the end are as many as are needed: fewer, or more
unfoldable pub bytes_fault : ℕ → ℕ → ℕ → Result ⊤ Unfit
bytes_fault need at n =
    nat_le at n ! Err Few ⨾
    nat_le need (n - at) ! Err Few ⨾
    nat_le (n - at) need ! Err Many ⨾
    Ok tt

unfoldable pub sized_of : Head → ℕ → Result Head Unfit
sized_of h n =
    then_by (size_fault h.width h.height) λ _.
    then_by (bytes_fault (3 * (h.width * h.height)) h.at n) λ _.
    Ok h

-- a whole picture: its head, its size, three bytes a pixel and no more
unfoldable pub picture_of : List ℕ → Result Head Unfit
picture_of m = then_by (head_of m) λ h. sized_of h (length m)
