-- Cases of 01 on the header call, computed by the definitions; and the record as 02's requests Six and Thirteen keep it.
-- (01 is this project's scope document, 02 its change requests, 001 is MS-RDPRFX: README, "What 01 is".)
use Rattle.std.specs.Prelude.{ℕ, ◌≡◌, true, false, List, [], ◌∷◌, ◌++◌, Ok, Err}
use Rattle.session.specs.declared.Session.{Session}
use Rattle.wire.specs.declared.Refusal.TheVariants.{Cut, Length, Field, Order}
use Rattle.session.specs.Header.{record_of, ready, header_reading}

-- the blocks of "Headers for 64 x 64, RLGR3", with what varies as a parameter
abbrev sync : List ℕ
sync = 0xC0 ∷ 0xCC ∷ 0x0C ∷ 0x00 ∷ 0x00 ∷ 0x00 ∷ 0xCA ∷ 0xAC ∷ 0xCC ∷ 0xCA ∷ 0x00 ∷ 0x01 ∷ []

abbrev versions : List ℕ
versions = 0xC1 ∷ 0xCC ∷ 0x0A ∷ 0x00 ∷ 0x00 ∷ 0x00 ∷ 0x01 ∷ 0x01 ∷ 0x00 ∷ 0x01 ∷ []

abbrev channels : ℕ → ℕ → List ℕ
channels low high = 0xC2 ∷ 0xCC ∷ 0x0C ∷ 0x00 ∷ 0x00 ∷ 0x00 ∷ 0x01 ∷ 0x00 ∷ low ∷ high ∷ 0x40 ∷ 0x00 ∷ []

abbrev context : ℕ → ℕ → List ℕ
context low high = 0xC3 ∷ 0xCC ∷ 0x0D ∷ 0x00 ∷ 0x00 ∷ 0x00 ∷ 0x01 ∷ 0xFF ∷ 0x00 ∷ 0x40 ∷ 0x00 ∷ low ∷ high ∷ []

-- 70 x 40 after three headers, with the columns, rows and words that are given
abbrev sized : ℕ → ℕ → ℕ → Session
sized columns rows words = record { headers = 3; mode = 0; width = 70; height = 40; columns = columns; rows = rows; words = words; glass = 0 }

pub record Cases : Type 0 where
  -- the four headers in order, from a fresh record; "Properties: context 2828 .. RLGR3; 2228 .. RLGR1"
  pub sync_taken : header_reading (record_of 0 0 0 0 0) sync ≡ Ok (record_of 0 1 0 0 0)
  pub versions_taken : header_reading (record_of 0 1 0 0 0) versions ≡ Ok (record_of 0 2 0 0 0)
  pub channels_taken : header_reading (record_of 0 2 0 0 0) (channels 0x40 0x00) ≡ Ok (record_of 0 3 64 64 0)
  pub rlgr3_taken : header_reading (record_of 0 3 64 64 0) (context 0x28 0x28) ≡ Ok (record_of 0 4 64 64 4)
  pub rlgr1_taken : header_reading (record_of 0 3 64 64 0) (context 0x28 0x22) ≡ Ok (record_of 0 4 64 64 1)
  -- "Width 4,096 taken, 4,097 refused 5"
  pub wide_taken : header_reading (record_of 0 2 0 0 0) (channels 0x00 0x10) ≡ Ok (record_of 0 3 4096 64 0)
  pub wide_refused : header_reading (record_of 0 2 0 0 0) (channels 0x01 0x10) ≡ Err Field
  -- a sync starts over, from any record; other headers are 12 where not due, and for a record that no calls could have made
  pub sync_again : header_reading (record_of 0 4 64 64 4) sync ≡ Ok (record_of 0 1 0 0 0)
  pub sync_unmade : header_reading (record_of 0 9 9 9 9) sync ≡ Ok (record_of 0 1 0 0 0)
  -- the glass is kept through a sync, 16 bits a word or 32, and by every other header; a glass that is neither answers 12, takes a good sync and is 0 then
  pub sync_kept : header_reading (record_of 1 4 64 64 4) sync ≡ Ok (record_of 1 1 0 0 0)
  pub glass_versions : header_reading (record_of 1 1 0 0 0) versions ≡ Ok (record_of 1 2 0 0 0)
  pub glass_channels : header_reading (record_of 1 2 0 0 0) (channels 0x40 0x00) ≡ Ok (record_of 1 3 64 64 0)
  pub glass_context : header_reading (record_of 1 3 64 64 0) (context 0x28 0x28) ≡ Ok (record_of 1 4 64 64 4)
  pub glass_unmade : header_reading (record_of 2 1 0 0 0) versions ≡ Err Order
  pub glass_sync : header_reading (record_of 2 1 0 0 0) sync ≡ Ok (record_of 0 1 0 0 0)
  pub early : header_reading (record_of 0 0 0 0 0) versions ≡ Err Order
  pub unmade : header_reading (record_of 0 1 64 64 0) versions ≡ Err Order
  -- two columns, one row, 2,800 words: right, and each off by one
  pub right_taken : header_reading (sized 2 1 2800) (context 0x28 0x28) ≡ Ok (record_of 0 4 70 40 4)
  pub columns_off : header_reading (sized 1 1 2800) (context 0x28 0x28) ≡ Err Order
  pub rows_off : header_reading (sized 2 0 2800) (context 0x28 0x28) ≡ Err Order
  pub words_off : header_reading (sized 2 1 2801) (context 0x28 0x28) ≡ Err Order
  pub off_sync : header_reading (sized 1 1 2800) sync ≡ Ok (record_of 0 1 0 0 0)
  -- bytes after the block are 4; a head of five bytes is 1
  pub more : header_reading (record_of 0 0 0 0 0) (sync ++ (0 ∷ [])) ≡ Err Length
  pub cut : header_reading (record_of 0 0 0 0 0) (0xC0 ∷ 0xCC ∷ 0x0C ∷ 0x00 ∷ 0x00 ∷ []) ≡ Err Cut
  -- a frame can be asked for after all four
  pub is-ready : ready (record_of 0 4 64 64 4) ≡ true
  pub glass_ready : ready (record_of 1 4 64 64 4) ≡ true
  pub glass_not : ready (record_of 2 4 64 64 4) ≡ false
