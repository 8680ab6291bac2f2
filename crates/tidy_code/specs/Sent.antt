-- A component's code as a filter in front of the panel takes it: by the sender that whoever installs it has named, never guessed from the bytes. Each sender
-- writes
-- one byte string for a list; bytes mean a list if they are 01's bytes of it or that byte string, and nothing else means anything. What comes out is 01's own
-- bytes of the list meant.
-- (01 is this project's scope document, 02 its change requests, 001 is MS-RDPRFX: README, "What 01 is".)
use Rattle.std.specs.Prelude.{ℕ, zero, suc, ◌-◌, ◌%◌, ◌≤◌, ◌≡◌, Bool, true, false, ◌⊎◌, List, [], ◌∷◌, ◌++◌, map, ltb, leb, eqb, ℤ, pos, negsuc, length, take}
use Rattle.std.specs.Prelude.{drop, get_or, replicate}
use Rattle.whole.specs.Row.{◌!◌⨾◌, ◌⇒◌∣◌}
use Rattle.wire.specs.Mode.{is_mode}
use Rattle.bits.specs.Bits.{bits_of}
use Rattle.code.specs.Fold.{unfold_z}
use Rattle.code.specs.ReadList.{Walked, whole, bad, read_list}
use Rattle.code.specs.Read.{clean, shell_fault, read_fault, read_bits, decoded}
use Rattle.code.specs.OneCode.{code, Listed}
use Rattle.code_write.specs.Write.{bytes_of}

-- ---- what a sender writes

-- "A sender is a number: 0 strict, 1 FreeRDP, 2 the encoder of MS-RDPRFX's own sample."
abbrev pub is_sender : ℕ → Bool
is_sender s = leb s 2

-- "one byte 00 behind them exactly if the code's bits mod 8 are 5, 6 or 7"
unfoldable pub surplus : ℕ → List ℕ
surplus bits = leb 5 (bits % 8) ⇒ (0 ∷ []) ∣ []

-- a list and the value -1 behind it: "The items are those of the code of a list, without the end at 4,096"
abbrev pub one_more : List ℤ → List ℤ
one_more zs = zs ++ (negsuc 0 ∷ [])

-- "For a mode and a list zs of 4,096 numbers in range, `sent s zs` is one byte string": "01's bytes of zs (code, filled up with zero bits)"; these and the
-- surplus
-- byte; "the code of the 4,097 values zs then -1, filled up with zero bits to a byte, and one byte 00"
unfoldable pub sent : ℕ → ℕ → List ℤ → List ℕ
unfolding surplus
sent zero mode zs = bytes_of mode zs
sent (suc zero) mode zs = bytes_of mode zs ++ surplus (length (code mode zs))
sent (suc (suc zero)) mode zs = bytes_of mode (one_more zs) ++ (0 ∷ [])
sent (suc (suc (suc s))) mode zs = bytes_of mode zs

-- "Bytes mean zs for sender s if they are 01's bytes of zs or `sent s zs`. Nothing else means anything, and bytes above 65,535 mean nothing"
pub record Form (s mode : ℕ) (b : List ℕ) (zs : List ℤ) : Type 0 where
  pub allowed : is_mode mode ≡ true
  pub small : length b ≤ 65535
  pub list : Listed zs
  pub bytes : (b ≡ bytes_of mode zs) ⊎ (b ≡ sent s mode zs)

-- ---- the same computed: what some bytes mean (`means_form`, `form_means`: exactly what `Form` says)

pub data Meant : Type 0 where
  means : List ℤ → Meant
  unclear : Meant

-- is the last byte 00?
unfoldable pub ends_zero : List ℕ → Bool
ends_zero b = ltb 0 (length b) ! false ⨾ eqb (get_or b (length b - 1) 0) 0

-- the bytes without the last
abbrev pub all_but : List ℕ → List ℕ
all_but b = take (length b - 1) b

-- FreeRDP's form without its last byte: 01's bytes of a list whose code leaves at most three bits of the last of them free
unfoldable pub padded_meant : ℕ → List ℕ → Meant
padded_meant mode w =
    eqb (read_fault mode 4096 w) 0 ! unclear ⨾
    leb 5 (read_bits mode 4096 w % 8) ! unclear ⨾
    means (decoded mode w)

-- the sample's form without its last byte: 4,097 values, of which the last is -1 (folded 1), filled up
unfoldable pub longer_meant : List Bool → Walked → Meant
longer_meant B (bad r) = unclear
longer_meant B (whole xs at) =
    clean (drop at B) ! unclear ⨾
    eqb (get_or xs 4096 0) 1 ! unclear ⨾
    means (map unfold_z (take 4096 xs))

-- a sender's own form without its last byte
unfoldable pub surplus_meant : ℕ → ℕ → List ℕ → Meant
unfolding padded_meant longer_meant
surplus_meant zero mode w = unclear
surplus_meant (suc zero) mode w = padded_meant mode w
surplus_meant (suc (suc zero)) mode w = longer_meant (bits_of w) (read_list (eqb mode 4) 4097 (bits_of w))
surplus_meant (suc (suc (suc s))) mode w = unclear

-- bytes that are not 01's: those of the sender, which end with 00
unfoldable pub others_meant : ℕ → ℕ → List ℕ → Meant
unfolding surplus_meant
others_meant s mode b = ends_zero b ! unclear ⨾ surplus_meant s mode (all_but b)

-- nothing where mode (5) or size (6) are refused; 01's bytes mean the list that the panel reads
unfoldable pub meant_by : ℕ → ℕ → List ℕ → Meant
unfolding others_meant
meant_by s mode b =
    eqb (shell_fault mode 4096 (length b)) 0 ! unclear ⨾
    eqb (read_fault mode 4096 b) 0 ⇒ means (decoded mode b) ∣
    others_meant s mode b

-- ---- tidied: "A code that means zs is written again as 01's bytes of zs; every other code stays as it came"

unfoldable pub tidied_by : ℕ → List ℕ → Meant → List ℕ
tidied_by mode b unclear = b
tidied_by mode b (means zs) = bytes_of mode zs

unfoldable pub tidy_code : ℕ → ℕ → List ℕ → List ℕ
unfolding tidied_by
tidy_code s mode b = tidied_by mode b (meant_by s mode b)

-- ---- what the functions promise

unfoldable pub is_meant : Meant → Bool
is_meant unclear = false
is_meant (means zs) = true

-- the list that reading leaves: the one meant, zeros where none is
unfoldable pub list_meant : Meant → List ℤ
list_meant unclear = replicate 4096 (pos 0)
list_meant (means zs) = zs

-- reading: whether a list is meant, and what the lent list holds then
pub record Answers (m : Meant) (after : List ℤ) (r : Bool) : Type 0 where
  pub answer : r ≡ is_meant m
  pub list : after ≡ list_meant m

abbrev pub MeantRead : ℕ → ℕ → List ℕ → List ℤ → Bool → Type 0
MeantRead s mode b after r = Answers (meant_by s mode b) after r
