-- What is promised of a tidied code, for every sender and mode and all bytes, on one page. Proved by `tidy_codes` (laws/Request).
use Rattle.std.specs.Prelude.{ℕ, ◌≤◌, ◌≡◌, List, [], ◌∷◌, ℤ, pos, length, replicate}
use Rattle.whole.specs.Among.{Among}
use Rattle.bits.specs.laws.Bytes.{Bytes}
use Rattle.code.specs.Cases.{Both}
use Rattle.code.specs.OneCode.{Listed}
use Rattle.code.specs.Read.{read_fault, decoded}
use Rattle.code_write.specs.Write.{bytes_of}
use Rattle.tidy_code.specs.Sent.{Form, means, unclear, meant_by, tidy_code}

pub record TidyCodes : Type 1 where
  -- what means a list is 01's bytes of it or the sender's, and nothing else: both ways
  pub means_form : (s mode : ℕ) (b : List ℕ) (zs : List ℤ) → Bytes b → meant_by s mode b ≡ means zs → Form s mode b zs
  pub form_means : (s mode : ℕ) (b : List ℕ) (zs : List ℤ) → Form s mode b zs → meant_by s mode b ≡ means zs
  -- "Two different lists never share a form"
  pub one_list : (s mode : ℕ) (b : List ℕ) (zs zs' : List ℤ) → Form s mode b zs → Form s mode b zs' → zs ≡ zs'
  -- "each list has at most one form beside 01's own"
  pub one_form :
      (s mode : ℕ) (b b' : List ℕ) (zs : List ℤ) → Form s mode b zs → Form s mode b' zs → (b ≡ bytes_of mode zs → ⊥) → (b' ≡ bytes_of mode zs → ⊥) → b ≡ b'
  -- strict changes nothing
  pub strict : (mode : ℕ) (b : List ℕ) → Bytes b → tidy_code 0 mode b ≡ b
  -- a code that the panel takes is kept byte for byte, and means the list that the panel reads
  pub good_kept : (s mode : ℕ) (b : List ℕ) → Bytes b → read_fault mode 4096 b ≡ 0 → tidy_code s mode b ≡ b
  pub good_means : (s mode : ℕ) (b : List ℕ) → read_fault mode 4096 b ≡ 0 → meant_by s mode b ≡ means (decoded mode b)
  -- whatever is meant is 4,096 numbers in range
  pub meant_listed : (s mode : ℕ) (b : List ℕ) (zs : List ℤ) → meant_by s mode b ≡ means zs → Listed zs
  -- what is meant is what the panel reads of the tidied code: it is accepted, and its list is the one meant
  pub same_list :
      (s mode : ℕ) (b : List ℕ) (zs : List ℤ) → meant_by s mode b ≡ means zs →
      (read_fault mode 4096 (tidy_code s mode b) ≡ 0) × (decoded mode (tidy_code s mode b) ≡ zs)
  -- it is 01's bytes of that list, and never longer than what came
  pub is_code : (s mode : ℕ) (b : List ℕ) (zs : List ℤ) → meant_by s mode b ≡ means zs → tidy_code s mode b ≡ bytes_of mode zs
  pub never_longer : (s mode : ℕ) (b : List ℕ) → length (tidy_code s mode b) ≤ length b
  -- what is unclear stays as it is; of what strict and FreeRDP's filter take the panel says 0 or 11
  pub others_kept : (s mode : ℕ) (b : List ℕ) → meant_by s mode b ≡ unclear → tidy_code s mode b ≡ b
  pub of_these_kinds :
      (s mode : ℕ) (b : List ℕ) (zs : List ℤ) → meant_by s mode b ≡ means zs → (s ≡ 2 → ⊥) → Among (0 ∷ 11 ∷ []) (read_fault mode 4096 b)
  -- tidying twice is tidying once
  pub once : (s mode : ℕ) (b : List ℕ) → Bytes b → tidy_code s mode (tidy_code s mode b) ≡ tidy_code s mode b
  -- not empty: in both modes FreeRDP's and the sample's own form of 4,096 zeros mean them, and are not 01's, which are 00 00 00
  pub zeros_one : Both (λ mode. meant_by 1 mode (0x00 ∷ 0x00 ∷ 0x00 ∷ 0x00 ∷ []) ≡ means (replicate 4096 (pos 0)))
  pub zeros_two : Both (λ mode. meant_by 2 mode (0x00 ∷ 0x00 ∷ 0x08 ∷ 0x09 ∷ 0x00 ∷ 0x00 ∷ []) ≡ means (replicate 4096 (pos 0)))
