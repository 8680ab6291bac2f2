-- The collector's calls as a C program meets them (02, request One): 01's number is returned; to which call a part goes, how long it is and how many bytes
-- were taken are stored behind references; the record is changed in place, and the store is lent. All by `collect_of`, the definition that the collector cites.
-- (01 is this project's scope document, 02 its change requests, 001 is MS-RDPRFX: README, "What 01 is".)
use Rattle.std.specs.Prelude.{ℕ, zero, suc, ◌≡◌, List}
use Rattle.wire.specs.Refusal.{refusal_number, refusal_of}
use Rattle.collect.specs.declared.Collector.{Collector}
use Rattle.collect.specs.declared.Collected.{Collected}
use Rattle.collect.specs.declared.Collected.TheVariants.{More, Header, Frame, Refused}
use Rattle.collect.specs.Collect.{HandOver, state, collect_of}

-- ---- an answer as three numbers

-- 0, or the refusal's
abbrev pub collected_number : Collected → ℕ
collected_number More = 0
collected_number (Header n) = 0
collected_number (Frame n) = 0
collected_number (Refused refusal) = refusal_number refusal

-- "hands it on": 1 to the header call, 2 to the frame call; 0 where it waits for more, or refuses
abbrev pub collected_call : Collected → ℕ
collected_call More = 0
collected_call (Header n) = 1
collected_call (Frame n) = 2
collected_call (Refused refusal) = 0

-- how many of the store's first bytes are handed on
abbrev pub collected_size : Collected → ℕ
collected_size More = 0
collected_size (Header n) = n
collected_size (Frame n) = n
collected_size (Refused refusal) = 0

-- and the answer that three such numbers are
abbrev pub answer_of : ℕ → ℕ → ℕ → Collected
answer_of zero zero size = More
answer_of zero (suc zero) size = Header size
answer_of zero (suc (suc call)) size = Frame size
answer_of (suc n) call size = Refused (refusal_of (suc n))

-- ---- the call: c and store are the record and the store before it, c' and store' after it; n is what is returned

abbrev pub hand_over : Collector → List ℕ → List ℕ → HandOver
hand_over c bytes store = collect_of (state c store) bytes

pub record CollectCall (c c' : Collector) (bytes store store' : List ℕ) (call size taken n : ℕ) : Type 0 where
  pub number : n ≡ collected_number (hand_over c bytes store).step.answer
  pub goes : call ≡ collected_call (hand_over c bytes store).step.answer
  pub long : size ≡ collected_size (hand_over c bytes store).step.answer
  pub took : taken ≡ (hand_over c bytes store).taken
  pub collector : c' ≡ (hand_over c bytes store).step.state.collector
  pub left : store' ≡ (hand_over c bytes store).step.state.store
