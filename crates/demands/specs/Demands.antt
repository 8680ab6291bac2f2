-- THE DEMANDS, on one page: over the calls (calls/specs/Calls), and so over the very definitions that their promises cite. Each field is a
-- sentence of the demands or of document 01; proofs/Demands proves `demands : Demands`. That no bytes can trap a call needs no sentence
-- here: every function is proved, and none of the six has a `requires`.
-- (01 is this project's scope document, 02 its change requests, 001 is MS-RDPRFX: README, "What 01 is".)
use Rattle.std.specs.Prelude.{ℕ, ◌+◌, ◌*◌, ◌%◌, ◌≤◌, ◌<◌, ◌≡◌, Bool, true, List, [], ◌∷◌, ◌++◌, ◌≢◌, ℤ, pos, length, get_or, take, drop, replicate, Result}
use Rattle.wire.specs.Refusal.{number_of, count_of}
use Rattle.whole.specs.Row.{◌⇒◌∣◌, ◌⨟◌}
use Rattle.whole.specs.Among.{Among, Other}
use Rattle.wire.specs.Le.{written, le16}
use Rattle.wire.specs.declared.Refusal.{Refusal}
use Rattle.bits.specs.Bits.{bits_of}
use Rattle.frame_layout.specs.Reader.{frame_fault, frame_tiles, set_place, tile_count, rect_count, set_at}
use Rattle.frame_blocks.specs.Blocks.{rects_of}
use Rattle.frame_blocks.specs.Cases.{PropsCases}
use Rattle.frame_draw.specs.Draw.{in_region}
use Rattle.frame_draw.specs.Shown.{last_tile, word_in}
use Rattle.frame_draw.specs.Show.{tile_word}
use Rattle.frame_blocks.specs.Judged.{judged}
use Rattle.session.specs.declared.Session.{Session}
use Rattle.session.specs.Header.{record_of, kept_glass, Right, ready, header_fault, record_after}
use Rattle.session.specs.Cases as HeaderOnes
use Rattle.frame.specs.Frame.{early, framed, Cleared}
use Rattle.headers.specs.Headers.{headers_of, headers_fault}
use Rattle.code.specs.declared.read.Reading.TheVariants.{Done as Read}
use Rattle.code.specs.Read.{reading_number, reading_bits, read_fault}
use Rattle.code.specs.OneCode.{code, Listed, Call, Exactly}
use Rattle.code.specs.Cases as CodeOnes
use Rattle.code_write.specs.Write.{bytes_of, write_fault}
use Rattle.code_write.specs.Cases.{WriteCases}
use Rattle.tile_back.specs.Cases as TileOnes
use Rattle.frame_pieces.specs.Parts.{tiles_no}
use Rattle.frame_pieces.specs.Cases as SendOnes
use Rattle.frame_write.specs.Encode.{picture_frame}
use Rattle.frame_write.specs.FrameWrite.{arg_fault, send_fault}
use Rattle.frame_readback.specs.Own.{word_back, tile_no}
use Rattle.frame_readback.specs.Request.{TwoSets}
use Rattle.short_readback.specs.Request.{RequestElevenFrames}
use Rattle.panel.specs.Edge.{ReadHeaderCall, ReadFrameCall, ReadComponentCall, WriteComponentCall, WriteHeadersCall, WriteFrameCall}
use Rattle.calls.specs.Calls.{ReadHeader, session_after, ReadFrame, ReadComponent, WriteComponent, WriteHeaders, WriteFrame, sent_by}
use Rattle.calls.specs.Calls.{CReadHeader, CReadFrame, as_frame, CReadComponent, CWriteComponent, CWriteHeaders, CWriteFrame, OnOneRecord}
use Rattle.day.specs.Days.{Days}
use Rattle.demands.specs.EveryCall.{EveryCall}
use Rattle.demands.specs.ShortForC.{ElevenForC}

-- ---- 1. "A frame is drawn whole, or refused by the first fault in document 01's order, with its number. After a refusal the picture and
-- the session record are exactly what they were, and work memory holds what 01 says."

-- 01's order: "12, then 2, then the blocks in wire order"
abbrev pub first_fault : ReadFrame → ℕ
first_fault c =
    early c.word c.session c.picture c.y c.cb c.cr c.scratch
    ⨟ frame_fault judged c.session.width c.session.height c.session.mode c.message

-- the four work lists are those that came in
pub record Untouched (c : ReadFrame) : Type 0 where
  pub y_kept : c.y' ≡ c.y
  pub cb_kept : c.cb' ≡ c.cb
  pub cr_kept : c.cr' ≡ c.cr
  pub scratch_kept : c.scratch' ≡ c.scratch

pub record Demand1 : Type 0 where
  -- the number is the first fault's; 0 where there is none
  pub header-number : (c : ReadHeader) → number_of c.answer ≡ header_fault c.session c.message
  pub frame-number : (c : ReadFrame) → number_of c.answer ≡ first_fault c
  -- drawn whole
  pub frame_whole :
      (c : ReadFrame) → number_of c.answer ≡ 0 →
      c.picture' ≡ framed c.session.glass c.session.mode c.session.width c.session.height c.message c.picture
  -- what a taken header leaves
  pub header_taken : (c : ReadHeader) → number_of c.answer ≡ 0 → session_after c ≡ record_after c.session c.message
  -- "A refused header or frame changes neither record nor picture."
  pub header_refused : (c : ReadHeader) → number_of c.answer ≢ 0 → session_after c ≡ c.session
  pub frame_refused : (c : ReadFrame) → number_of c.answer ≢ 0 → c.picture' ≡ c.picture
  -- "Work lists of a frame call are untouched on 12 and 2; after every other frame answer they hold only zeros."
  pub lists_untouched : (c : ReadFrame) → Among (12 ∷ 2 ∷ []) (number_of c.answer) → Untouched c
  pub lists_zeros : (c : ReadFrame) → Other (12 ∷ 2 ∷ []) (number_of c.answer) → Cleared c.y' c.cb' c.cr' c.scratch'
  -- "The component reader leaves its output list untouched on 5, 2 and 6 and fills it with zeros on 1, 9, 10, 11."
  pub list_untouched : (c : ReadComponent) → Among (5 ∷ 2 ∷ 6 ∷ []) (reading_number c.answer) → c.list' ≡ c.list
  pub list_zeros : (c : ReadComponent) → Among (1 ∷ 9 ∷ 10 ∷ 11 ∷ []) (reading_number c.answer) → c.list' ≡ replicate 4096 (pos 0)

-- ---- writers: "Writers leave their output untouched on every refusal; when done they say the length in bytes, refused 0, and bytes past it are
-- untouched."
pub record SentC (bytes out out' : List ℕ) (size number : ℕ) : Type 0 where
  pub done_length : number ≡ 0 → size ≡ length bytes
  pub done_output : number ≡ 0 → out' ≡ written bytes out
  pub refused_length : number ≢ 0 → size ≡ 0
  pub refused_output : number ≢ 0 → out' ≡ out

abbrev pub Sent : List ℕ → List ℕ → List ℕ → Result ℕ Refusal → Type 0
Sent bytes out out' answer = SentC bytes out out' (count_of answer) (number_of answer)

-- ---- 2. "An accepted frame changes the picture to what 01's rules say, pixel by pixel, and no other word."

-- "A picture word is changed exactly if it lies in the channel, in some rectangle of the region, and in some listed tile; the last such
-- tile in message order decides." "No rectangles: one rectangle over the whole channel", as document 02's request Three mends 01.
abbrev pub shown_word : ReadFrame → ℕ → ℕ → ℕ
shown_word c px py =
    let old : ℕ = get_or c.picture (py * c.session.width + px) 0 in
    in_region (rects_of c.message 14) (rect_count c.message 14) px py
    ⇒ word_in (tile_word c.session.glass c.session.mode (set_at c.message (set_place c.message))) px py (last_tile (frame_tiles c.message) px py) old
    ∣ old

-- "A frame from our writer, read after our writer's headers for the same size and mode": the calls in their order, on the glass whose words the picture has
pub record OurCalls (h : WriteHeaders) (one two three four : ReadHeader) (s : WriteFrame) (f : ReadFrame) : Type 0 where
  pub headers_done : number_of h.answer ≡ 0
  pub sync : one.message ≡ take 12 (sent_by h.answer h.out')
  pub versions : two.message ≡ take 10 (drop 12 (sent_by h.answer h.out'))
  pub channels : three.message ≡ take 12 (drop 22 (sent_by h.answer h.out'))
  pub context : four.message ≡ take 13 (drop 34 (sent_by h.answer h.out'))
  pub glass : f.word ≡ kept_glass one.session.glass
  pub then_two : two.session ≡ session_after one
  pub then_three : three.session ≡ session_after two
  pub then_four : four.session ≡ session_after three
  pub same_width : s.width ≡ h.width
  pub same_height : s.height ≡ h.height
  pub same_mode : s.mode ≡ h.mode
  pub ten : length s.quant ≡ 10
  pub frame_done : number_of s.answer ≡ 0
  pub frame : f.message ≡ sent_by s.answer s.out'
  pub then_frame : f.session ≡ session_after four
  pub y_long : length f.y ≡ 4096
  pub cb_long : length f.cb ≡ 4096
  pub cr_long : length f.cr ≡ 4096
  pub scratch_long : length f.scratch ≡ 4096
  pub room : s.height * s.width ≤ length f.picture

-- ".. is accepted and shows what 01's decoding makes of the given picture's rounded coefficients."
pub record OurFrame (one two three four : ReadHeader) (s : WriteFrame) (f : ReadFrame) : Type 0 where
  pub sync_taken : number_of one.answer ≡ 0
  pub versions_taken : number_of two.answer ≡ 0
  pub channels_taken : number_of three.answer ≡ 0
  pub context_taken : number_of four.answer ≡ 0
  pub accepted : number_of f.answer ≡ 0
  pub tiles : count_of f.answer ≡ tiles_no s.width s.height
  pub word : (px py : ℕ) → px < s.width → py < s.height →
      get_or f.picture' (py * s.width + px) 0 ≡ word_back f.word s.pixels s.width s.height s.quant (tile_no s.width px py)
      (64 * (py % 64) + px % 64)
  pub past : (i : ℕ) → s.height * s.width ≤ i → get_or f.picture' i 0 ≡ get_or f.picture i 0
  pub long : length f.picture' ≡ length f.picture

pub record Demand2 : Type 0 where
  pub pixel :
      (c : ReadFrame) → number_of c.answer ≡ 0 → (px py : ℕ) → px < c.session.width → py < c.session.height →
      get_or c.picture' (py * c.session.width + px) 0 ≡ shown_word c px py
  -- "words past width x height are never changed"
  pub past : (c : ReadFrame) (i : ℕ) → c.session.height * c.session.width ≤ i → get_or c.picture' i 0 ≡ get_or c.picture i 0
  pub long : (c : ReadFrame) → length c.picture' ≡ length c.picture
  -- "A done frame reports numTiles, a refused one 0."
  pub tiles : (c : ReadFrame) → number_of c.answer ≡ 0 → count_of c.answer ≡ tile_count c.message (set_place c.message)
  pub no_tiles : (c : ReadFrame) → number_of c.answer ≢ 0 → count_of c.answer ≡ 0
  -- the other way
  pub our_frames :
      (h : WriteHeaders) (one two three four : ReadHeader) (s : WriteFrame) (f : ReadFrame) → OurCalls h one two three four s f →
      OurFrame one two three four s f
  -- "The writer refuses only on 01's conditions."
  pub frame-writer :
      (c : WriteFrame) →
      number_of c.answer ≡ arg_fault c.width c.height c.mode c.quant (length c.pixels) (length c.list) (length c.scratch)
      ⨟ send_fault c.index c.width c.height c.mode c.quant c.pixels (length c.out)
  pub header_writer : (c : WriteHeaders) → number_of c.answer ≡ headers_fault c.width c.height c.mode (length c.out)
  pub frame-sent : (c : WriteFrame) → Sent (picture_frame c.index c.width c.height c.mode c.quant c.pixels) c.out c.out' c.answer
  pub headers_sent : (c : WriteHeaders) → Sent (headers_of c.width c.height c.mode) c.out c.out' c.answer
  -- The frame writer never refuses a picture: 9 and 6 do not happen, whatever its bytes; and given good arguments and this much room it is written
  pub writer_refuses : (c : WriteFrame) → ((i : ℕ) → get_or c.pixels i 0 < 256) → Among (0 ∷ 5 ∷ 7 ∷ 2 ∷ 13 ∷ []) (number_of c.answer)
  pub writer_done : (c : WriteFrame) → ((i : ℕ) → get_or c.pixels i 0 < 256) →
      arg_fault c.width c.height c.mode c.quant (length c.pixels) (length c.list) (length c.scratch) ≡ 0 → length c.quant ≡ 10 →
      72 + 194911 * tiles_no c.width c.height ≤ length c.out → number_of c.answer ≡ 0
  -- "The frame writer's work lists are untouched on 5, 7 and 2 and hold only zeros after every other answer."
  pub work_untouched : (c : WriteFrame) → Among (5 ∷ 7 ∷ 2 ∷ []) (number_of c.answer) → (c.list' ≡ c.list) × (c.scratch' ≡ c.scratch)
  pub work_zeros :
      (c : WriteFrame) → Other (5 ∷ 7 ∷ 2 ∷ []) (number_of c.answer) → (c.list' ≡ replicate 4096 (pos 0)) × (c.scratch' ≡ replicate 4096 (pos 0))

-- ---- 3. "In each of the two code modes a byte string of at most 65,535 bytes, read into 4,096 places, is accepted as a component exactly if it
-- is the code of some list of 4,096 whole numbers from -32,767 to 32,767, filled up with zero bits to a byte; that list is handed back. Before
-- filling up, no list's code is the start of another's, and the reader reports the code's length in bits, whatever bits follow."
pub record Demand3 : Type 0 where
  -- the number is the first fault's: "Component calls first refuse a mode that is neither of the two (5). Component reader: 2, 6, then the code"
  pub component-number : (c : ReadComponent) → reading_number c.answer ≡ read_fault c.mode (length c.list) c.bytes
  pub accepted_if :
      (c : ReadComponent) (zs : List ℤ) → Exactly c.mode c.bytes c.list zs → (c.answer ≡ Read (length (code c.mode zs))) × (c.list' ≡ zs)
  pub accepted_only_if : (c : ReadComponent) → reading_number c.answer ≡ 0 → Exactly c.mode c.bytes c.list c.list'
  pub one_code : (mode : ℕ) (xs ys : List ℤ) (rest : List Bool) → Listed xs → Listed ys → code mode xs ++ rest ≡ code mode ys → xs ≡ ys
  pub length_told :
      (c : ReadComponent) (zs : List ℤ) (rest : List Bool) → Call c.mode c.bytes c.list → Listed zs →
      bits_of c.bytes ≡ code c.mode zs ++ rest → reading_bits c.answer ≡ length (code c.mode zs)
  -- the component writer writes just that code, and refuses only on 01's conditions
  pub writer_number : (c : WriteComponent) → number_of c.answer ≡ write_fault c.mode c.list (length c.out)
  pub writer_sent : (c : WriteComponent) → Sent (bytes_of c.mode c.list) c.out c.out' c.answer
  pub read_back :
      (w : WriteComponent) (c : ReadComponent) → number_of w.answer ≡ 0 → c.mode ≡ w.mode → c.bytes ≡ sent_by w.answer w.out' →
      length c.list ≡ 4096 → (c.answer ≡ Read (length (code w.mode w.list))) × (c.list' ≡ w.list)

-- ---- "For any input whatever, a public function's promise leaves one possible answer and one possible content of lent memory, refusals too. Show that
-- two answers meeting it are equal": of two calls that were given the same
pub record OneAnswer : Type 0 where
  pub read-header : (c d : ReadHeader) → c.session ≡ d.session → c.message ≡ d.message → c.answer ≡ d.answer
  pub read-frame :
      (c d : ReadFrame) → c.word ≡ d.word → c.session ≡ d.session → c.message ≡ d.message → c.picture ≡ d.picture → c.y ≡ d.y → c.cb ≡ d.cb →
      c.cr ≡ d.cr → c.scratch ≡ d.scratch →
      (c.answer ≡ d.answer) × (c.picture' ≡ d.picture') × (c.y' ≡ d.y') × (c.cb' ≡ d.cb') × (c.cr' ≡ d.cr') × (c.scratch' ≡ d.scratch')
  pub read-component : (c d : ReadComponent) → c.mode ≡ d.mode → c.bytes ≡ d.bytes → c.list ≡ d.list → (c.answer ≡ d.answer) × (c.list' ≡ d.list')
  pub write-component : (c d : WriteComponent) → c.mode ≡ d.mode → c.list ≡ d.list → c.out ≡ d.out → (c.answer ≡ d.answer) × (c.out' ≡ d.out')
  pub write-headers :
      (c d : WriteHeaders) → c.width ≡ d.width → c.height ≡ d.height → c.mode ≡ d.mode → c.out ≡ d.out →
      (c.answer ≡ d.answer) × (c.out' ≡ d.out')
  pub write-frame :
      (c d : WriteFrame) → c.width ≡ d.width → c.height ≡ d.height → c.mode ≡ d.mode → c.quant ≡ d.quant → c.index ≡ d.index →
      c.pixels ≡ d.pixels → c.list ≡ d.list → c.scratch ≡ d.scratch → c.out ≡ d.out →
      (c.answer ≡ d.answer) × (c.list' ≡ d.list') × (c.scratch' ≡ d.scratch') × (c.out' ≡ d.out')

-- the same of the calls for C: the record behind the reference, the number, the value and the lists; what one call and another left is marked 1 and 2
pub record OneAnswerC : Type 0 where
  pub read-header : (s s₁ s₂ : Session) (m : List ℕ) (n₁ n₂ : ℕ) → ReadHeaderCall s s₁ m n₁ → ReadHeaderCall s s₂ m n₂ → (n₁ ≡ n₂) × (s₁ ≡ s₂)
  pub read-frame :
      (word : ℕ) (s s₁ s₂ : Session) (m pic : List ℕ) (y cb cr tmp : List ℤ) (p₁ p₂ : List ℕ) (y₁ y₂ b₁ b₂ r₁ r₂ t₁ t₂ : List ℤ) (k₁ k₂ n₁ n₂ : ℕ) →
      ReadFrameCall word s s₁ m pic y cb cr tmp p₁ y₁ b₁ r₁ t₁ k₁ n₁ → ReadFrameCall word s s₂ m pic y cb cr tmp p₂ y₂ b₂ r₂ t₂ k₂ n₂ →
      (n₁ ≡ n₂) × (k₁ ≡ k₂) × (s₁ ≡ s₂) × (p₁ ≡ p₂) × (y₁ ≡ y₂) × (b₁ ≡ b₂) × (r₁ ≡ r₂) × (t₁ ≡ t₂)
  pub read-component :
      (mode : ℕ) (s : List ℕ) (list l₁ l₂ : List ℤ) (k₁ k₂ n₁ n₂ : ℕ) → ReadComponentCall mode s list l₁ k₁ n₁ → ReadComponentCall mode s list l₂ k₂ n₂ →
      (n₁ ≡ n₂) × (k₁ ≡ k₂) × (l₁ ≡ l₂)
  pub write-component :
      (mode : ℕ) (zs : List ℤ) (out o₁ o₂ : List ℕ) (k₁ k₂ n₁ n₂ : ℕ) → WriteComponentCall mode zs out o₁ k₁ n₁ → WriteComponentCall mode zs out o₂ k₂ n₂ →
      (n₁ ≡ n₂) × (k₁ ≡ k₂) × (o₁ ≡ o₂)
  pub write-headers :
      (w h mode : ℕ) (out o₁ o₂ : List ℕ) (k₁ k₂ n₁ n₂ : ℕ) → WriteHeadersCall w h mode out o₁ k₁ n₁ → WriteHeadersCall w h mode out o₂ k₂ n₂ →
      (n₁ ≡ n₂) × (k₁ ≡ k₂) × (o₁ ≡ o₂)
  pub write-frame : (w h mode : ℕ) (q : List ℕ) (index : ℕ) (p : List ℕ) (list l₁ l₂ scratch t₁ t₂ : List ℤ) (out o₁ o₂ : List ℕ) (k₁ k₂ n₁ n₂ : ℕ) →
      WriteFrameCall w h mode q index p list l₁ scratch t₁ out o₁ k₁ n₁ → WriteFrameCall w h mode q index p list l₂ scratch t₂ out o₂ k₂ n₂ →
      (n₁ ≡ n₂) × (k₁ ≡ k₂) × (l₁ ≡ l₂) × (t₁ ≡ t₂) × (o₁ ≡ o₂)

-- ---- for C: demands 1 to 3 over the calls of panel/src/edge.rt. Each of them is one of the six on the same input, and gives its number and its value; what
-- is new is that one record, behind a reference, is handed on from call to call.

pub record EdgeDemand1 : Type 0 where
  pub header-number : (c : CReadHeader) → c.number ≡ header_fault c.session c.message
  pub frame-number : (c : CReadFrame) → c.number ≡ first_fault (as_frame c)
  pub frame_whole :
      (c : CReadFrame) → c.number ≡ 0 →
      c.picture' ≡ framed c.session.glass c.session.mode c.session.width c.session.height c.message c.picture
  pub header_taken : (c : CReadHeader) → c.number ≡ 0 → c.session' ≡ record_after c.session c.message
  pub header_refused : (c : CReadHeader) → c.number ≢ 0 → c.session' ≡ c.session
  pub frame_refused : (c : CReadFrame) → c.number ≢ 0 → c.picture' ≡ c.picture
  -- "a frame call leaves it equal", the record, on every answer
  pub frame_keeps : (c : CReadFrame) → c.session' ≡ c.session
  pub lists_untouched : (c : CReadFrame) → Among (12 ∷ 2 ∷ []) c.number → Untouched (as_frame c)
  pub lists_zeros : (c : CReadFrame) → Other (12 ∷ 2 ∷ []) c.number → Cleared c.y' c.cb' c.cr' c.scratch'
  pub list_untouched : (c : CReadComponent) → Among (5 ∷ 2 ∷ 6 ∷ []) c.number → c.list' ≡ c.list
  pub list_zeros : (c : CReadComponent) → Among (1 ∷ 9 ∷ 10 ∷ 11 ∷ []) c.number → c.list' ≡ replicate 4096 (pos 0)

-- our own headers, block by block, and our own frame, read with one record that is handed on
pub record OurCallsC (h : CWriteHeaders) (one two three four : CReadHeader) (s : CWriteFrame) (f : CReadFrame) : Type 0 where
  pub headers_done : h.number ≡ 0
  pub sync : one.message ≡ take 12 (take h.size h.out')
  pub versions : two.message ≡ take 10 (drop 12 (take h.size h.out'))
  pub channels : three.message ≡ take 12 (drop 22 (take h.size h.out'))
  pub context : four.message ≡ take 13 (drop 34 (take h.size h.out'))
  pub glass : f.word ≡ kept_glass one.session.glass
  pub then_two : two.session ≡ one.session'
  pub then_three : three.session ≡ two.session'
  pub then_four : four.session ≡ three.session'
  pub same_width : s.width ≡ h.width
  pub same_height : s.height ≡ h.height
  pub same_mode : s.mode ≡ h.mode
  pub ten : length s.quant ≡ 10
  pub frame_done : s.number ≡ 0
  pub frame : f.message ≡ take s.size s.out'
  pub then_frame : f.session ≡ four.session'
  pub y_long : length f.y ≡ 4096
  pub cb_long : length f.cb ≡ 4096
  pub cr_long : length f.cr ≡ 4096
  pub scratch_long : length f.scratch ≡ 4096
  pub room : s.height * s.width ≤ length f.picture

pub record OurFrameC (one two three four : CReadHeader) (s : CWriteFrame) (f : CReadFrame) : Type 0 where
  pub sync_taken : one.number ≡ 0
  pub versions_taken : two.number ≡ 0
  pub channels_taken : three.number ≡ 0
  pub context_taken : four.number ≡ 0
  pub accepted : f.number ≡ 0
  pub tiles : f.tiles ≡ tiles_no s.width s.height
  pub word : (px py : ℕ) → px < s.width → py < s.height →
      get_or f.picture' (py * s.width + px) 0 ≡ word_back f.word s.pixels s.width s.height s.quant (tile_no s.width px py)
      (64 * (py % 64) + px % 64)
  pub past : (i : ℕ) → s.height * s.width ≤ i → get_or f.picture' i 0 ≡ get_or f.picture i 0
  pub long : length f.picture' ≡ length f.picture

pub record EdgeDemand2 : Type 0 where
  pub pixel :
      (c : CReadFrame) → c.number ≡ 0 → (px py : ℕ) → px < c.session.width → py < c.session.height →
      get_or c.picture' (py * c.session.width + px) 0 ≡ shown_word (as_frame c) px py
  pub past : (c : CReadFrame) (i : ℕ) → c.session.height * c.session.width ≤ i → get_or c.picture' i 0 ≡ get_or c.picture i 0
  pub long : (c : CReadFrame) → length c.picture' ≡ length c.picture
  pub tiles : (c : CReadFrame) → c.number ≡ 0 → c.tiles ≡ tile_count c.message (set_place c.message)
  pub no_tiles : (c : CReadFrame) → c.number ≢ 0 → c.tiles ≡ 0
  pub our_frames :
      (h : CWriteHeaders) (one two three four : CReadHeader) (s : CWriteFrame) (f : CReadFrame) → OurCallsC h one two three four s f →
      OurFrameC one two three four s f
  pub frame-writer :
      (c : CWriteFrame) →
      c.number ≡ arg_fault c.width c.height c.mode c.quant (length c.pixels) (length c.list) (length c.scratch) ⨟ send_fault c.index
      c.width c.height c.mode c.quant c.pixels (length c.out)
  pub header_writer : (c : CWriteHeaders) → c.number ≡ headers_fault c.width c.height c.mode (length c.out)
  pub frame-sent :
      (c : CWriteFrame) → SentC (picture_frame c.index c.width c.height c.mode c.quant c.pixels) c.out c.out' c.size c.number
  pub headers_sent : (c : CWriteHeaders) → SentC (headers_of c.width c.height c.mode) c.out c.out' c.size c.number
  pub writer_refuses : (c : CWriteFrame) → ((i : ℕ) → get_or c.pixels i 0 < 256) → Among (0 ∷ 5 ∷ 7 ∷ 2 ∷ 13 ∷ []) c.number
  pub writer_done :
      (c : CWriteFrame) → ((i : ℕ) → get_or c.pixels i 0 < 256) →
      arg_fault c.width c.height c.mode c.quant (length c.pixels) (length c.list) (length c.scratch) ≡ 0 → length c.quant ≡ 10 →
      72 + 194911 * tiles_no c.width c.height ≤ length c.out → c.number ≡ 0
  pub work_untouched : (c : CWriteFrame) → Among (5 ∷ 7 ∷ 2 ∷ []) c.number → (c.list' ≡ c.list) × (c.scratch' ≡ c.scratch)
  pub work_zeros : (c : CWriteFrame) → Other (5 ∷ 7 ∷ 2 ∷ []) c.number → (c.list' ≡ replicate 4096 (pos 0)) × (c.scratch' ≡ replicate 4096 (pos 0))

pub record EdgeDemand3 : Type 0 where
  pub component-number : (c : CReadComponent) → c.number ≡ read_fault c.mode (length c.list) c.bytes
  pub accepted_if :
      (c : CReadComponent) (zs : List ℤ) → Exactly c.mode c.bytes c.list zs →
      (c.number ≡ 0) × (c.bits ≡ length (code c.mode zs)) × (c.list' ≡ zs)
  pub accepted_only_if : (c : CReadComponent) → c.number ≡ 0 → Exactly c.mode c.bytes c.list c.list'
  pub length_told :
      (c : CReadComponent) (zs : List ℤ) (rest : List Bool) → Call c.mode c.bytes c.list → Listed zs →
      bits_of c.bytes ≡ code c.mode zs ++ rest → c.bits ≡ length (code c.mode zs)
  pub writer_number : (c : CWriteComponent) → c.number ≡ write_fault c.mode c.list (length c.out)
  pub writer_sent : (c : CWriteComponent) → SentC (bytes_of c.mode c.list) c.out c.out' c.size c.number
  pub read_back :
      (w : CWriteComponent) (c : CReadComponent) → w.number ≡ 0 → c.mode ≡ w.mode → c.bytes ≡ take w.size w.out' → length c.list ≡ 4096 →
      (c.number ≡ 0) × (c.bits ≡ length (code w.mode w.list)) × (c.list' ≡ w.list)

pub record EdgeDemands : Type 0 where
  pub one : EdgeDemand1
  pub two : EdgeDemand2
  pub three : EdgeDemand3

-- ---- document 02, request Six: tile columns, tile rows and the picture's words in the record "must be right after every call, refused ones included"
pub record RecordRight : Type 0 where
  pub fresh : (glass : ℕ) → Right (record_of glass 0 0 0 0)
  pub right_after : (c : ReadHeader) → Right c.session → Right (session_after c)
  -- over any list of calls on one record
  pub right_always : (s t : Session) → OnOneRecord s t → Right s → Right t
  -- "A record that no calls could have made answers 12 wherever one is judged, but takes a good sync": so does one in which one of the three is wrong
  pub wrong_header :
      (c : ReadHeader) → (Right c.session → ⊥) → 6 ≤ length c.message → 0xCCC1 ≤ le16 c.message 0 → le16 c.message 0 ≤ 0xCCC3 →
      number_of c.answer ≡ 12
  pub wrong_frame : (c : ReadFrame) → (Right c.session → ⊥) → number_of c.answer ≡ 12
  pub any_sync : (c d : ReadHeader) → c.message ≡ d.message → c.session.glass ≡ d.session.glass → le16 c.message 0 ≡ 0xCCC0 → c.answer ≡ d.answer

-- ---- document 02, request Thirteen: "The session record now names the glass, chosen when the session is opened and kept through a sync"
pub record RecordGlass : Type 0 where
  pub glass_kept : (c : ReadHeader) → c.session.glass ≤ 1 → (session_after c).glass ≡ c.session.glass
  -- over any list of calls on one record: it is the one that the session was opened for
  pub glass_always : (s t : Session) → OnOneRecord s t → s.glass ≤ 1 → t.glass ≡ s.glass
  -- "a picture of the other word size is refused with 2", whatever is lent, once all four headers are there
  pub other_size : (c : ReadFrame) → ready c.session ≡ true → c.word ≢ c.session.glass → number_of c.answer ≡ 2
  pub other_size_c : (c : CReadFrame) → ready c.session ≡ true → c.word ≢ c.session.glass → c.number ≡ 2
  -- a glass that is neither: a record that no calls could have made, which takes a good sync and has the base's glass then
  pub other_header :
      (c : ReadHeader) → 1 < c.session.glass → 6 ≤ length c.message → 0xCCC1 ≤ le16 c.message 0 → le16 c.message 0 ≤ 0xCCC3 →
      number_of c.answer ≡ 12
  pub other_frame : (c : ReadFrame) → 1 < c.session.glass → number_of c.answer ≡ 12
  pub other_sync :
      (c : ReadHeader) → 1 < c.session.glass → le16 c.message 0 ≡ 0xCCC0 → number_of c.answer ≡ 0 → session_after c ≡ record_of 0 1 0 0 0

-- ---- "Numbers the fitter sees": none above 13
pub record SmallNumbers : Type 0 where
  pub read-header : (c : ReadHeader) → number_of c.answer ≤ 13
  pub read-frame : (c : ReadFrame) → number_of c.answer ≤ 13
  pub read-component : (c : ReadComponent) → reading_number c.answer ≤ 13
  pub write-component : (c : WriteComponent) → number_of c.answer ≤ 13
  pub write-headers : (c : WriteHeaders) → number_of c.answer ≤ 13
  pub write-frame : (c : WriteFrame) → number_of c.answer ≤ 13

-- ---- "Those marked (p) are proved of the definitions, gathered under a single statement"
pub record PaperCases : Type 0 where
  -- all zeros, 00 00, 00 00 00 00, empty; +1 and -1 then zeros; folded 0 to 3: as the reader takes them, and as the writer sends them
  pub read : CodeOnes.Cases
  pub sent : WriteCases
  -- bytes 66 66 77 88 98; the line of 4.2.4.3.1; q = 6; white, black and red
  pub tile : TileOnes.Cases
  -- context properties 2828 and 2228, and the four headers in their order
  pub headers : HeaderOnes.Cases
  -- tileset properties: 5051 is RLGR3 and not RLGR1, 4451 the other way, read and written
  pub tileset : PropsCases
  -- bytes 66 66 77 88 98 as they are written
  pub writer : SendOnes.Cases

pub record Demands : Type 0 where
  pub one : Demand1
  pub two : Demand2
  pub three : Demand3
  pub once : OneAnswer
  pub once_for_c : OneAnswerC
  pub for_c : EdgeDemands
  -- one answer of every call that a request brought
  pub every_call : EveryCall
  -- document 02, request Five: the frame writer over two quantiser sets
  pub five : TwoSets
  pub six : RecordRight
  -- document 02, request Eleven: the short frame, over the panel's calls and over those for C
  pub eleven : RequestElevenFrames
  pub eleven_for_c : ElevenForC
  pub thirteen : RecordGlass
  -- document 02, request Fourteen: the whole day at once
  pub fourteen : Days
  pub small : SmallNumbers
  pub cases : PaperCases
