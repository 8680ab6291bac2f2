-- The four header blocks as bytes, and what the header writer refuses.
use Rattle.std.specs.Prelude.{ℕ, ◌+◌, ◌*◌, List, ◌∷◌, ◌++◌, leb, length, Result}
use Rattle.wire.specs.Le.{bytes16, bytes32}
use Rattle.whole.specs.Row.{◌!◌⨾◌}
use Rattle.wire.specs.Mode.{is_mode}
use Rattle.wire.specs.Wrote.{Wrote}
use Rattle.wire.specs.declared.Refusal.{Refusal}
use Rattle.session.specs.Header.{size_good}

-- sync: "magic CACCACCA, version 0100"
unfoldable pub sync_of : List ℕ
sync_of = bytes16 0xCCC0 ++ (bytes32 12 ++ (bytes32 0xCACCACCA ++ bytes16 0x0100))

-- versions: "count 1, codec 1, version 0100"
unfoldable pub versions_of : List ℕ
versions_of = bytes16 0xCCC1 ++ (bytes32 10 ++ (1 ∷ 1 ∷ bytes16 0x0100))

-- channels: "count 1, id 0", width, height
unfoldable pub channels_of : ℕ → ℕ → List ℕ
channels_of w h = bytes16 0xCCC2 ++ (bytes32 12 ++ (1 ∷ 0 ∷ (bytes16 w ++ bytes16 h)))

-- "Context properties from the low bit: flags 3, cct 2 = 1, xft 4 = 1, et 4, qt 2 = 1, one spare"; writers write flags 0
unfoldable pub properties_of : ℕ → ℕ
properties_of et = 8 + 32 + 512 * et + 8192

-- context: codecId 1, channelId 0xFF, "ctxId 0, tileSize 2 bytes = 64, properties 2"
unfoldable pub context_of : ℕ → List ℕ
context_of et = bytes16 0xCCC3 ++ (bytes32 13 ++ (1 ∷ 0xFF ∷ 0 ∷ (bytes16 64 ++ bytes16 (properties_of et))))

-- "Headers come in table order"
unfoldable pub headers_of : ℕ → ℕ → ℕ → List ℕ
headers_of w h et = sync_of ++ (versions_of ++ (channels_of w h ++ context_of et))

-- "Header writer: size or mode 5, then 13 (47 bytes)"
unfoldable pub headers_fault : ℕ → ℕ → ℕ → ℕ → ℕ
headers_fault w h et room =
    size_good w h ! 5 ⨾
    is_mode et ! 5 ⨾
    leb 47 room ! 13 ⨾
    0

-- the writer's promise: its output as it was and as it is, and its answer
abbrev pub HeadersWritten : ℕ → ℕ → ℕ → List ℕ → List ℕ → Result ℕ Refusal → Type 0
HeadersWritten width height mode out out' r = Wrote (headers_fault width height mode (length out)) (headers_of width height mode) out out' r
