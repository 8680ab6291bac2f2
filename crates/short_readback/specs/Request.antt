-- 02's request Eleven, the short frame: what may be relied on, over the promises of the calls, sentence by sentence. `request_eleven_frames` (laws/Request)
-- proves all of it, and laws/Instance has calls that it speaks of. Checker and planner have a page of their own, `RequestEleven` (plan/specs/Request).
-- (01 is this project's scope document, 02 its change requests, 001 is MS-RDPRFX: README, "What 01 is".)
use Rattle.std.specs.Prelude.{ℕ, ◌+◌, ◌*◌, ◌%◌, ◌≤◌, ◌<◌, ◌≡◌, List, [], ◌∷◌, ℤ, pos, length, get_or, take, replicate, Result}
use Rattle.wire.specs.declared.Refusal.{Refusal}
use Rattle.wire.specs.Refusal.{number_of, count_of}
use Rattle.plan.specs.declared.check.PlanRefusal.{PlanRefusal}
use Rattle.plan.specs.Answer.{plan_number}
use Rattle.short_write.specs.Answer.{short_count, handed}
use Rattle.whole.specs.Among.{Among, Other}
use Rattle.session.specs.Header.{record_of}
use Rattle.quants.specs.Quants.{chroma_index, one_for}
use Rattle.quants.specs.declared.Quants.{Quants}
use Rattle.frame.specs.Frame.{FrameRead}
use Rattle.frame_write.specs.Encode.{picture_frame}
use Rattle.frame_write.specs.Sets.{frame_over, FrameWrittenOver}
use Rattle.frame_write.specs.Picked.{frame_picked, all_tiles}
use Rattle.frame_pieces.specs.Parts.{tiles_no}
use Rattle.frame_readback.specs.Own.{word_back, word_over, tile_no}
use Rattle.frame_readback.specs.Request.{WriteFrameSets}
use Rattle.plan.specs.Plan.{plan_fault}
use Rattle.short_write.specs.Short.{own_fault, ShortWritten}

-- a call of the short frame's writer: what was given, what was answered, what lent memory holds afterwards (marked ')
pub record WriteShort : Type 0 where
  pub width : ℕ
  pub height : ℕ
  pub mode : ℕ
  pub quants : Quants
  pub luma : length quants.luma.v ≡ 10
  pub chroma : length quants.chroma.v ≡ 10
  pub index : ℕ
  pub old : List ℕ
  pub new : List ℕ
  pub picks : List ℕ
  pub list : List ℤ
  pub scratch : List ℤ
  pub out : List ℕ
  pub list' : List ℤ
  pub scratch' : List ℤ
  pub out' : List ℕ
  pub answer : Result ℕ PlanRefusal
  pub promise : ShortWritten width height mode quants index old new picks list list' scratch scratch' out out' answer

-- its own 5, 7 and 2, and the check's number
abbrev pub own_of : WriteShort → ℕ
own_of c = own_fault c.width c.height c.mode c.quants (length c.old) (length c.new) (length c.list) (length c.scratch)

abbrev pub check_of : WriteShort → ℕ
check_of c = plan_fault c.width c.height c.old c.new c.picks

-- "the glass shows what a full frame of the picture gives", a glass of 16 bits a word (0) or of 32 (1): every word of the channel does (`ShownOver` says it
-- of a full frame: frame_readback/specs/Own)
abbrev pub Shows : ℕ → List ℕ → ℕ → ℕ → Quants → List ℕ → Type 0
Shows glass p w h q pic = (px py : ℕ) → px < w → py < h → get_or pic (py * w + px) 0 ≡ word_over glass p w h q (tile_no w px py) (64 * (py % 64) + px % 64)

-- accepted, so many tiles reported, the glass shows the picture, and words past the channel are what they were
pub record ShortShown (glass : ℕ) (p : List ℕ) (w h : ℕ) (q : Quants) (count : ℕ) (pic pic' : List ℕ) (r : Result ℕ Refusal) : Type 0 where
  pub number : number_of r ≡ 0
  pub tiles : count_of r ≡ count
  pub shows : Shows glass p w h q pic'
  pub past : (i : ℕ) → h * w ≤ i → get_or pic' i 0 ≡ get_or pic i 0
  pub long : length pic' ≡ length pic

-- a frame call on a message, on a glass, in a session of our headers' size and mode: work lists of 4,096, and a picture long enough
pub record ReadOn (glass w h mode : ℕ) (m pic pic' : List ℕ) (r : Result ℕ Refusal) : Type 0 where
  pub y : List ℤ
  pub cb : List ℤ
  pub cr : List ℤ
  pub scratch : List ℤ
  pub y' : List ℤ
  pub cb' : List ℤ
  pub cr' : List ℤ
  pub scratch' : List ℤ
  pub y_long : length y ≡ 4096
  pub cb_long : length cb ≡ 4096
  pub cr_long : length cr ≡ 4096
  pub scratch_long : length scratch ≡ 4096
  pub room : h * w ≤ length pic
  pub promise : FrameRead glass (record_of glass 4 w h mode) m pic y cb cr scratch pic' y' cb' cr' scratch' r

-- "a full frame": a call of the frame writer, done, for the same size, mode and quantisers, of a picture
pub record FullFrame (c : WriteShort) (pixels : List ℕ) (f : WriteFrameSets) : Type 0 where
  pub width : f.width ≡ c.width
  pub height : f.height ≡ c.height
  pub mode : f.mode ≡ c.mode
  pub quants : f.quants ≡ c.quants
  pub picture : f.pixels ≡ pixels
  pub is_done : number_of f.answer ≡ 0

abbrev pub sent_full : WriteFrameSets → List ℕ
sent_full f = take (count_of f.answer) f.out'

abbrev pub sent_short : WriteShort → List ℕ
sent_short c = take (short_count c.answer) c.out'

pub record RequestElevenFrames : Type 0 where
  -- "The short frame's writer makes this check itself, after its own 5, 7 and 2"
  pub own_first : (c : WriteShort) → (own_of c ≡ 0 → ⊥) → plan_number c.answer ≡ own_of c
  pub then_the_check : (c : WriteShort) → own_of c ≡ 0 → (check_of c ≡ 0 → ⊥) → plan_number c.answer ≡ check_of c
  pub done_is_checked : (c : WriteShort) → plan_number c.answer ≡ 0 → check_of c ≡ 0
  -- "then 9, 6 and 13 as before, over the listed tiles": 9 and 6 cannot happen, where the picture's places are bytes
  pub never_refuses : (c : WriteShort) → ((i : ℕ) → get_or c.new i 0 < 256) → Among (0 ∷ 5 ∷ 7 ∷ 2 ∷ 16 ∷ 8 ∷ 17 ∷ 13 ∷ []) (plan_number c.answer)
  -- when done, the bytes are the frame of the listed tiles
  pub done_bytes :
      (c : WriteShort) → plan_number c.answer ≡ 0 →
      take (short_count c.answer) c.out' ≡ frame_picked c.index c.width c.height c.mode c.quants c.new c.picks
  -- all tiles listed: the full frame's bytes, with one set for both 01's own; and of the call all that the full frame's writer promises, its answer handed on
  pub all_bytes :
      (index w h mode : ℕ) (q : Quants) (p : List ℕ) → frame_picked index w h mode q p (all_tiles w h) ≡ frame_over index w h mode q p
  pub all_one_set :
      (index w h mode : ℕ) (v p : List ℕ) → frame_picked index w h mode (one_for v) p (all_tiles w h) ≡ picture_frame index w h mode v p
  pub all-tiles :
      (c : WriteShort) → c.picks ≡ all_tiles c.width c.height → length c.old ≡ length c.new →
      (answer : Result ℕ Refusal) × (c.answer ≡ handed answer)
      × FrameWrittenOver c.width c.height c.mode c.quants c.index c.new c.list c.list' c.scratch c.scratch' c.out c.out' answer
  -- no tile listed: 72 bytes, 77 with two sets
  pub no_tiles :
      (index w h mode : ℕ) (q : Quants) (p : List ℕ) → length q.luma.v ≡ 10 → length q.chroma.v ≡ 10 →
      length (frame_picked index w h mode q p []) ≡ 72 + 5 * chroma_index q
  -- "If the glass shows what a full frame of the old picture gives, then the short frame leaves it showing what a full frame of the new one would give, with
  -- the same quantisers, mode and session": the record is that of our headers on either glass, work lists of 4,096 and a picture long enough
  pub leaves_showing :
      (glass : ℕ) → glass ≤ 1 → (c : WriteShort) → plan_number c.answer ≡ 0 →
      (pic : List ℕ) (y cb cr tmp : List ℤ) (pic' : List ℕ) (y' cb' cr' tmp' : List ℤ) (answer : Result ℕ Refusal)
      → length y ≡ 4096
      → length cb ≡ 4096
      → length cr ≡ 4096
      → length tmp ≡ 4096
      → c.height * c.width ≤ length pic
      → FrameRead glass (record_of glass 4 c.width c.height c.mode) (take (short_count c.answer) c.out') pic y cb cr tmp pic' y' cb' cr'
      tmp' answer
      → Shows glass c.old c.width c.height c.quants pic
      → ShortShown glass c.new c.width c.height c.quants (length c.picks) pic pic' answer
  -- the same of the frames themselves: after a full frame of the old picture it shows what that gives; and where it does, the short frame leaves the very
  -- picture that a full frame of the new one leaves, words past the channel included
  pub full_shows :
      (glass : ℕ) → glass ≤ 1 → (c : WriteShort) (f : WriteFrameSets) → FullFrame c c.old f →
      (pic pic' : List ℕ) (r : Result ℕ Refusal) → ReadOn glass c.width c.height c.mode (sent_full f) pic pic' r →
      Shows glass c.old c.width c.height c.quants pic'
  pub as_the_full :
      (glass : ℕ) → glass ≤ 1 → (c : WriteShort) (f : WriteFrameSets) → plan_number c.answer ≡ 0 → FullFrame c c.new f →
      (pic after_short after_full : List ℕ) (r s : Result ℕ Refusal) → Shows glass c.old c.width c.height c.quants pic →
      ReadOn glass c.width c.height c.mode (sent_short c) pic after_short r →
      ReadOn glass c.width c.height c.mode (sent_full f) pic after_full s →
      after_short ≡ after_full
  -- the room that is enough for a full frame is always enough: no 13
  pub always_room :
      (c : WriteShort) → ((i : ℕ) → get_or c.new i 0 < 256) → 77 + 196624 * tiles_no c.width c.height ≤ length c.out →
      Among (0 ∷ 5 ∷ 7 ∷ 2 ∷ 16 ∷ 8 ∷ 17 ∷ []) (plan_number c.answer)
  -- the words, with one set for both
  pub one_set_words : (glass : ℕ) (p : List ℕ) (w h : ℕ) (v : List ℕ) (k i : ℕ) → word_over glass p w h (one_for v) k i ≡ word_back glass p w h v k i
  -- one answer and one content of lent memory
  pub one_answer :
      (c : WriteShort) (list' scratch' : List ℤ) (out' : List ℕ) (r : Result ℕ PlanRefusal)
      → ShortWritten c.width c.height c.mode c.quants c.index c.old c.new c.picks c.list list' c.scratch scratch' c.out out' r
      → (c.answer ≡ r) × (c.list' ≡ list') × (c.scratch' ≡ scratch') × (c.out' ≡ out')
  -- "The frame writer's work lists are untouched on 5, 7 and 2 and hold only zeros after every other answer."
  pub work_untouched : (c : WriteShort) → Among (5 ∷ 7 ∷ 2 ∷ []) (plan_number c.answer) → (c.list' ≡ c.list) × (c.scratch' ≡ c.scratch)
  pub work_zeros :
      (c : WriteShort) → Other (5 ∷ 7 ∷ 2 ∷ []) (plan_number c.answer) → (c.list' ≡ replicate 4096 (pos 0)) × (c.scratch' ≡ replicate 4096 (pos 0))
  -- refused, the output is what it was
  pub refused_untouched : (c : WriteShort) → (plan_number c.answer ≡ 0 → ⊥) → c.out' ≡ c.out
