-- FNV-1a, 64 bits, over bytes, words and signed numbers: the hash that a recording gives of lent memory.
use Rattle.std.specs.Prelude.{ℕ, ◌-◌, ◌*◌, ◌/◌, ◌%◌, ◌^◌, List, [], ◌∷◌, ℤ, pos, negsuc, bit_xor}

-- the hash of nothing
abbrev pub basis : ℕ
basis = 14695981039346656037

-- a byte more: exclusive or, then times the prime 2^40 + 435
unfoldable pub hashed : ℕ → ℕ → ℕ
hashed h b = bit_xor h b * 1099511628211 % 2 ^ 64

-- two bytes more, low byte first
unfoldable pub hashed_two : ℕ → ℕ → ℕ
hashed_two h v = hashed (hashed h (v % 256)) (v / 256 % 256)

-- four
unfoldable pub hashed_four : ℕ → ℕ → ℕ
hashed_four h v = hashed_two (hashed_two h (v % 65536)) (v / 65536)

-- the 32 bits of a signed number, as a number: -1 is 4294967295
unfoldable pub bits_of : ℤ → ℕ
bits_of (pos n) = n
bits_of (negsuc n) = 4294967295 - n

-- four bytes of a signed number more
unfoldable pub hashed_signed : ℕ → ℤ → ℕ
hashed_signed h z = hashed_four h (bits_of z)

-- element after element, from the first on
unfoldable pub hash_of : {A : Type 0} → (ℕ → A → ℕ) → ℕ → List A → ℕ
hash_of more h [] = h
hash_of more h (x ∷ xs) = hash_of more (more h x) xs
