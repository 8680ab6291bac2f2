-- Laws on words as bytes.
use Rattle.std.specs.Prelude.{◌≡◌, ℕ, suc, ◌+◌, ◌*◌, ◌/◌, ◌<◌, ◌≤◌, List, [], ◌∷◌, ◌++◌, length, take, slice_index_or}
use Rattle.std.proofs.Math.Path.{refl, sym}
use Rattle.std.proofs.Math.Nat.{mul-div-le}
use Rattle.std.proofs.Common.{ap, ◌∙◌, append-nil, append_assoc, arith, add-one, mul-le-mul, mul-zero, mul-suc, add_comm, length-append, take_all}
use Rattle.std.proofs.Common.{length-take-le}
use Rattle.std.proofs.Math.Seq.{take-suc, drop-length}
use Rattle.wire.specs.Le.{bytes16, bytes32, patch, written}
use Rattle.wire.specs.laws.Le.{wrote_next}
use Rattle.app_pictures.specs.declared.bmp.Packing.{Packing}
use Rattle.app_pictures.specs.Bmp.{word_bytes, file_head, info_head, info_rest, masks, head_of}

-- words of k bytes each, whatever the bytes
module _ {A : Type 0} (k : ℕ) (bytes : A → List ℕ) (each : (v : A) → length (bytes v) ≡ k) where
  pub word_bytes_length : (ws : List A) → length (word_bytes bytes ws) ≡ k * length ws
  unfolding word_bytes
  word_bytes_length [] = sym (mul-zero k)
  word_bytes_length (w ∷ ws) = rw (length-append, each w, word_bytes_length ws) (add_comm k (k * length ws) ∙ sym (mul-suc k (length ws)))

  word_bytes_append : (xs ys : List A) → word_bytes bytes (xs ++ ys) ≡ word_bytes bytes xs ++ word_bytes bytes ys
  unfolding word_bytes
  word_bytes_append [] ys = refl
  word_bytes_append (x ∷ xs) ys = rw (word_bytes_append xs ys) (sym (append_assoc (bytes x) (word_bytes bytes xs) (word_bytes bytes ys)))

  -- one word more; d is what stands past the end
  word_snoc : (ws : List A) (i : ℕ) (d : A) → i < length ws → word_bytes bytes (take (i + 1) ws) ≡ word_bytes bytes (take i ws) ++ bytes (slice_index_or ws i d)
  unfolding word_bytes
  word_snoc ws i d h =
      rw (add-one, take-suc ws i d h, word_bytes_append) (ap (λ (t : List ℕ). word_bytes bytes (take i ws) ++ t) (append-nil (bytes (slice_index_or ws i d))))

  pub word_next :
      (ws : List A) (out x y : List ℕ) (i : ℕ) (v d : A)
      → y ≡ patch x (k * i) (bytes v)
      → x ≡ written (word_bytes bytes (take i ws)) out
      → v ≡ slice_index_or ws i d
      → i < length ws
      → y ≡ written (word_bytes bytes (take (i + 1) ws)) out
  word_next ws out x y i v d e w f h =
      wrote_next x y (word_bytes bytes (take i ws)) (bytes v) out (k * i) e w
      (word_bytes_length (take i ws) ∙ ap (λ (j : ℕ). k * j) (length-take-le i ws (omega arith)))
      ∙ ap (λ (d : List ℕ). written d out) (ap (λ (j : A). word_bytes bytes (take i ws) ++ bytes j) f ∙ sym (word_snoc ws i d h))

  pub words_none : (ws : List A) (out : List ℕ) → out ≡ written (word_bytes bytes (take 0 ws)) out
  unfolding written word_bytes
  words_none ws out = refl

  pub words_all :
      (ws : List A) (out x : List ℕ) (i : ℕ) → length ws ≤ i → x ≡ written (word_bytes bytes (take i ws)) out → x ≡ written (word_bytes bytes ws) out
  words_all ws out x i l e = e ∙ ap (λ (d : List A). written (word_bytes bytes d) out) (take_all i ws l)

-- two bytes each, and four
pub each16 : (v : ℕ) → length (bytes16 v) ≡ 2
unfolding bytes16
each16 v = refl

pub each32 : (v : ℕ) → length (bytes32 v) ≡ 4
unfolding bytes32
each32 v = refl

-- a list that has been written from end to end
pub written_all : (ys out : List ℕ) → length out ≡ length ys → written ys out ≡ ys
unfolding written
written_all ys out e = rw (← e, drop-length out) (append-nil ys)

-- the rows of a picture are fewer bytes than 2^34
pub rows_bound : (row h : ℕ) → row ≤ 262140 → h < 65536 → row * h < 17179869184
rows_bound row h a b =
    let m : row * h ≤ 262140 * 65535 = mul-le-mul {n₂ = 262140} {m₂ = 65535} a (omega arith) in
    omega arith

-- the head fills its 66 bytes
pub head_all :
    (p : Packing) (w h s t : ℕ) (out x : List ℕ) → x ≡ written (head_of p w h s) out → s ≡ t → length out ≡ 66 → x ≡ head_of p w h t
unfolding head_of file_head info_head info_rest masks bytes16 bytes32
head_all p w h s t out x e f l = e ∙ (written_all (head_of p w h s) out l ∙ ap (λ (k : ℕ). head_of p w h k) f)

pub row_bound : (r w : ℕ) → r ≤ 2048 → w ≤ 4096 → r * w ≤ 8388608
row_bound r w a b = mul-le-mul {n₂ = 2048} {m₂ = 4096} a b

-- where so many words of k bytes have room, the next has its place
pub word_fits : (k i n l : ℕ) → 1 ≤ k → i < n → n ≤ l / k → k * i + k ≤ l
word_fits k i n l a b c =
    let room : k * suc i ≤ k * (l / k) = mul-le-mul {n₂ = k} {m₂ = l / k} (omega arith) (omega arith) in
    let next = mul-suc k i in
    let most = mul-div-le l k in
    omega (arith, room, next, most)
