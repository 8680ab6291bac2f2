-- A writer's bytes behind those that stand there already: what goes out is both, one behind the other.
use Rattle.std.specs.Prelude.{ℕ, zero, suc, ◌+◌, ◌-◌, ◌≤◌, ◌<◌, ◌≡◌, refl, length, take, drop, Result, Ok, Err}
use Rattle.std.proofs.Common.{ap, sym, ◌∙◌, arith, length-append, length-drop, drop_of_length-le, take_at, take_all, le-leb}
use Rattle.std.proofs.Math.Path.{subst}
use mathlib.Core.List.{List, [], ◌∷◌, ◌++◌, append_assoc}
use Rattle.whole.specs.Row.{◌⨟◌}
use Rattle.whole.specs.laws.Row.{passes, stops}
use Rattle.wire.specs.Le.{bytes16, bytes32, written}
use Rattle.wire.specs.Refusal.{refusal_number, number_of}
use Rattle.wire.specs.laws.Refusal.{number_pos}
use Rattle.wire.specs.Wrote.{Wrote, length_said, out_left}
use Rattle.wire.specs.declared.Refusal.{Refusal}
use Rattle.plan.specs.Answer.{why_number}
use Rattle.plan.specs.laws.Answer.{why_pos}
use Rattle.short_write.specs.Answer.{short_count, WroteShort}
use Rattle.plan.specs.declared.check.PlanRefusal.{PlanRefusal}
use Rattle.plan.specs.declared.check.PlanRefusal.TheVariants.{Common}
use Rattle.settings.specs.declared.Settings.{Settings}
use Rattle.headers.specs.Headers.{headers_of, sync_of, versions_of, channels_of, context_of}
use Rattle.app_text.specs.First.{first_of}
use Rattle.app_pictures.specs.Ppm.{unfit_number, picture_of}
use Rattle.app_pictures.specs.laws.Ppm.{unfit_pos}
use Rattle.app_pictures.specs.declared.ppm.Head.{Head}
use Rattle.app_pictures.specs.declared.ppm.Unfit.{Unfit}
use Rattle.app_send.specs.Stream.{Made, Sent, Behind, gone_out, fault_number, made_fault, made_number, made_behind, task, stream_fault, stream_of, PictureSent}
use Rattle.app_send.specs.declared.faults.Fault.{Fault}
use Rattle.app_send.specs.declared.faults.Fault.TheVariants.{Picture, Differ}
use Rattle.app_send.specs.declared.Unmade.{Unmade}
use Rattle.app_send.specs.declared.Unmade.TheVariants.{Faulty, Refused}

-- the first bytes where there are as many
pub first-of : (s : List ℕ) (n : ℕ) → n ≤ length s → first_of s n ≡ take n s
unfolding first_of
first-of s n h = sym (passes _ _ _ _ (le-leb n (length s) h) refl)

-- ---- a writer in a part that was lent

-- what a writer says that it wrote is in its output
wrote_fits : (f : ℕ) (bytes out out' : List ℕ) (r : Result ℕ PlanRefusal) →
    WroteShort f bytes out out' r → length out' ≡ length out → short_count r ≤ length out
unfolding length_said out_left written
wrote_fits zero bytes out out' r w l =
    let e : length bytes + length (drop (length bytes) out) ≡ length out = simp length-append at (sym (ap length w.left) ∙ l) in
    omega (arith, w.said, e)
wrote_fits (suc f) bytes out out' r w l = omega (arith, w.said)

-- the part from a place to the end came back, and the whole is put together again
pub part_behind :
    (f at : ℕ) (bytes out part out' : List ℕ) (r : Result ℕ PlanRefusal)
    → at ≤ length out
    → WroteShort f bytes (drop at out) part r
    → length part ≡ length (drop at out)
    → out' ≡ take at out ++ part
    → Behind f bytes at out out' r
part_behind f at bytes out part out' r h w l e =
    record {
      number = w.number;
      said = w.said;
      left = e ∙ ap (λ (t : List ℕ). take at out ++ t) w.left;
      room = omega (arith, wrote_fits f bytes (drop at out) part r w l, length-drop at out);
    }

-- ---- what goes out

-- a refusal: its number, and nothing goes out
pub sent_none : (n : ℕ) (why : PlanRefusal) (bytes out' : List ℕ) → why_number why ≡ n → Sent 0 n bytes out' (Err (Refused why))
unfolding ◌⨟◌ gone_out
sent_none zero why bytes out' e = absurd (why_pos why e)
sent_none (suc n) why bytes out' e = record { fault_is = refl; number_is = e; fits = omega arith; gone = first-of out' 0 (omega arith) }

-- behind bytes that stand there
pub behind_sent :
    (f at : ℕ) (done bytes x y : List ℕ) (w : Result ℕ PlanRefusal) (r : Made)
    → take at x ≡ done
    → length done ≡ at
    → length y ≡ length x
    → Behind f bytes at x y w
    → r ≡ made_behind at w
    → Sent 0 f (done ++ bytes) y r
unfolding ◌⨟◌ gone_out length_said out_left written
behind_sent zero at done bytes x y (Ok n) r d l s b e =
    let long : at + n ≤ length y = omega (arith, b.room, s) in
    let t : take (at + n) y ≡ done ++ bytes =
    ap (take (at + n)) (b.left ∙ (ap (λ (t : List ℕ). t ++ (bytes ++ drop (length bytes) (drop at x))) d ∙ sym (append_assoc done bytes _)))
    ∙ take_at (done ++ bytes) (drop (length bytes) (drop at x)) (at + n) (simp length-append (omega (arith, b.said, l))) in
    subst (Sent 0 0 (done ++ bytes) y) (sym e) (record { fault_is = refl; number_is = refl; fits = long; gone = first-of y (at + n) long ∙ t })
behind_sent zero at done bytes x y (Err why) r d l s b e = absurd (why_pos why b.number)
behind_sent (suc f) at done bytes x y (Ok n) r d l s b e = absurd (omega (arith, b.number))
behind_sent (suc f) at done bytes x y (Err why) r d l s b e =
    subst (Sent 0 (suc f) (done ++ bytes) y) (sym e) (sent_none (suc f) why (done ++ bytes) y b.number)

-- headers were written: they stand at the start
pub headers_stand : (bytes out x : List ℕ) (k : ℕ) → x ≡ written bytes out → length bytes ≡ k → take k x ≡ bytes
unfolding written
headers_stand bytes out x k e l = ap (take k) e ∙ take_at bytes (drop (length bytes) out) k l

-- ---- the steps of the program

pub past_end : (m : List ℕ) (at : ℕ) → length m < at → take 0 m ≡ drop at m
past_end [] zero h = refl
past_end [] (suc at) h = refl
past_end (x ∷ m) zero h = absurd (omega arith)
past_end (x ∷ m) (suc at) h = past_end m at (omega arith)

pub to_end : (m : List ℕ) (at : ℕ) → take (length m - at) (drop at m) ≡ drop at m
to_end m at = take_all (length m - at) (drop at m) (rw length-drop (omega arith))

-- the output lent from a place to its end
pub lent_behind :
    (fault : ℕ → ℕ) (at : ℕ) (bytes out part : List ℕ) (r : Result ℕ PlanRefusal)
    → at ≤ length out
    → WroteShort (fault (length (take (length out - at) (drop at out)))) bytes (take (length out - at) (drop at out)) part r
    → length part ≡ length (take (length out - at) (drop at out))
    → Behind (fault (length out - at)) bytes at out (take at out ++ (part ++ drop (length out - at) (drop at out))) r
lent_behind fault at bytes out part r h w l =
    let e = to_end out at in
    let room : length (take (length out - at) (drop at out)) ≡ length out - at = ap length e ∙ length-drop at out in
    let few : length (drop at out) ≤ length out - at = rw length-drop (omega arith) in
    let none : drop (length out - at) (drop at out) ≡ [] = drop_of_length-le (drop at out) few in
    let w' : WroteShort (fault (length out - at)) bytes (drop at out) part r =
    subst (λ (j : ℕ). WroteShort (fault j) bytes (drop at out) part r) room
    (subst (λ (x : List ℕ). WroteShort (fault (length (take (length out - at) (drop at out)))) bytes x part r) e w) in
    part_behind (fault (length out - at)) at bytes out part _ r h w' (l ∙ ap length e)
    (ap (λ (t : List ℕ). take at out ++ t) (ap (λ (t : List ℕ). part ++ t) none ∙ append_none part))
  where
    append_none : (l : List ℕ) → l ++ [] ≡ l
    append_none [] = refl
    append_none (a ∷ l) = ap (λ (t : List ℕ). a ∷ t) (append_none l)

pub headers_long : (w h et : ℕ) → length (headers_of w h et) ≡ 47
unfolding headers_of sync_of versions_of channels_of context_of bytes16 bytes32
headers_long w h et = refl

-- the header writer refuses
pub make_none :
    (hf ff : ℕ) (refusal : Refusal) (bytes out' : List ℕ) → refusal_number refusal ≡ hf → Sent 0 (hf ⨟ ff) bytes out' (Err (Refused (Common refusal)))
make_none hf ff refusal bytes out' p = sent_none (hf ⨟ ff) (Common refusal) bytes out' (stops hf ff _ (λ q. number_pos refusal (p ∙ q)) p)

-- headers, and a frame behind them
pub make_sent :
    (hf : ℕ) (fault : ℕ → ℕ) (head bytes out x y : List ℕ) (w : Result ℕ PlanRefusal) (v : Result ℕ Refusal) (r : Made)
    → number_of v ≡ 0
    → Wrote hf head out x v
    → length head ≡ 47
    → length x ≡ length out
    → length y ≡ length x
    → Behind (fault (length x - 47)) bytes 47 x y w
    → r ≡ made_behind 47 w
    → Sent 0 (hf ⨟ fault (length out - 47)) (head ++ bytes) y r
unfolding ◌⨟◌ out_left
make_sent zero fault head bytes out x y w v r z h l lx ly b e =
    subst (λ (j : ℕ). Sent 0 (fault (j - 47)) (head ++ bytes) y r) lx
    (behind_sent (fault (length x - 47)) 47 head bytes x y w r (headers_stand head out x 47 h.left l) l ly b e)
make_sent (suc hf) fault head bytes out x y w v r z h l lx ly b e = absurd (omega (arith, z, h.number))

-- ---- files

gone_none : (f : ℕ) → [] ≡ gone_out f []
unfolding gone_out
gone_none zero = refl
gone_none (suc f) = refl

pub fault-sent : (fault : Fault) (out' : List ℕ) → Sent (fault_number fault) 0 [] out' (Err (Faulty fault))
fault-sent fault out' = record { fault_is = refl; number_is = refl; fits = omega arith; gone = first-of out' 0 (omega arith) ∙ gone_none _ }

-- a fault has a number, and so has a refusal
fault_pos : (fault : Fault) → fault_number fault ≡ 0 → ⊥
fault_pos (Picture unfit) e = unfit_pos unfit e
fault_pos Differ e = absurd (omega (arith, e))

pub unmade_number : (why : Unmade) → made_fault (Err why) ≡ 0 → made_number (Err why) ≡ 0 → ⊥
unmade_number (Faulty fault) e n = fault_pos fault e
unmade_number (Refused why) e n = why_pos why n

module _ (s : Settings) (index : ℕ) (file : List ℕ) (room : ℕ) (out' : List ℕ) (r : Made) where
  pub picture_is :
      (head : Head) (p : List ℕ)
      → Ok head ≡ picture_of file
      → p ≡ drop head.at file
      → Sent 0 (stream_fault (task s index head.width head.height) p room) (stream_of (task s index head.width head.height) p) out' r
      → PictureSent s index file room (picture_of file) out' r
  picture_is head p g d k =
      let t = task s index head.width head.height in
      subst (λ (x : Result Head Unfit). PictureSent s index file room x out' r) g
      (subst (λ (x : List ℕ). Sent 0 (stream_fault t x room) (stream_of t x) out' r) d k)

  pub picture_none : (unfit : Unfit) → Err unfit ≡ picture_of file → r ≡ Err (Faulty (Picture unfit)) → PictureSent s index file room (picture_of file) out' r
  picture_none unfit g e =
      subst (λ (x : Result Head Unfit). PictureSent s index file room x out' r) g
      (subst (Sent (unfit_number unfit) 0 [] out') (sym e) (fault-sent (Picture unfit) out'))
