-- The frame writer: what it answers and what it leaves, for every input. 01, last paragraph of "Colour", and "Numbers the fitter sees".
-- (01 is this project's scope document, 02 its change requests, 001 is MS-RDPRFX: README, "What 01 is".)
use Rattle.std.specs.Prelude.{ℕ, zero, suc, ◌≡◌, List, leb, eqb, ℤ, pos, length, replicate, Result}
use Rattle.whole.specs.Row.{◌!◌⨾◌, ◌⨟◌}
use Rattle.wire.specs.Mode.{is_mode}
use Rattle.wire.specs.Wrote.{Wrote}
use Rattle.wire.specs.declared.Refusal.{Refusal}
use Rattle.session.specs.Header.{size_good}
use Rattle.bands.specs.Bands.{is_good}
use Rattle.frame_pieces.specs.Parts.{tiles_no, pixels_good}
use Rattle.frame_write.specs.Encode.{refusals, picture_frame}

-- "size or mode 5, quantiser 7, pixel or work list length 2", by the lengths of the pixels and of the two work lists
unfoldable pub arg_fault : ℕ → ℕ → ℕ → List ℕ → ℕ → ℕ → ℕ → ℕ
arg_fault w h mode q pixels list scratch =
    size_good w h ! 5 ⨾
    is_mode mode ! 5 ⨾
    is_good q ! 7 ⨾
    pixels_good w h pixels ! 2 ⨾
    eqb list 4096 ! 2 ⨾
    eqb scratch 4096 ! 2 ⨾
    0

-- "then per component in order 9 .. then 6, then 13", which is given where "the lent output is shorter than what is to be written"
unfoldable pub send_fault : ℕ → ℕ → ℕ → ℕ → List ℕ → List ℕ → ℕ → ℕ
send_fault index w h mode q p room =
    refusals p w h mode q (tiles_no w h) 0 ⨟
    (leb (length (picture_frame index w h mode q p)) room ! 13 ⨾ 0)

-- "The frame writer's work lists are untouched on 5, 7 and 2 and hold only zeros after every other answer": by the fault of the arguments
unfoldable pub work_left : ℕ → List ℤ → List ℤ
work_left zero xs = replicate 4096 (pos 0)
work_left (suc f) xs = xs

-- what the call says and leaves; xs' is a list at exit
pub record FrameWritten (w h mode : ℕ) (q : List ℕ) (index : ℕ) (p : List ℕ) (list list' scratch scratch' : List ℤ) (out out' : List ℕ)
    (r : Result ℕ Refusal) : Type 0 where
  pub wrote :
      Wrote (arg_fault w h mode q (length p) (length list) (length scratch) ⨟ send_fault index w h mode q p (length out)) (picture_frame index w h mode q p)
      out out' r
  pub first : list' ≡ work_left (arg_fault w h mode q (length p) (length list) (length scratch)) list
  pub second : scratch' ≡ work_left (arg_fault w h mode q (length p) (length list) (length scratch)) scratch
