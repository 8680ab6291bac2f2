-- A short frame behind a stream: the stream stays, and what goes out is both.
use Rattle.std.specs.Prelude.{ℕ, zero, suc, ◌-◌, ◌≤◌, ◌≡◌, refl, List, ◌++◌, length, take, drop, Result, Ok, Err, IfOk}
use Rattle.std.proofs.Common.{ap, sym, subst, ◌∙◌, arith, take_at, length-take-le}
use Rattle.std.proofs.lemmas.Result.{IfOk-weaker}
use Rattle.whole.specs.Row.{◌⨟◌}
use Rattle.wire.specs.Wrote.{length_said}
use Rattle.short_write.specs.Answer.{short_count}
use Rattle.plan.specs.declared.check.PlanRefusal.{PlanRefusal}
use Rattle.app_send.specs.Stream.{frame_bytes, frame_fault, stream_of, stream_fault, Made, made_number, made_size, Sent, Behind, gone_out, made_behind, task}
use Rattle.app_send.specs.Both.{next_task, short_fault_in, short_bytes, both_of, both_made, Changed, BothSent, FilesSent}
use Rattle.app_send.specs.laws.Stream.{first-of, behind_sent, unmade_number, fault-sent}
use Rattle.app_send.specs.declared.Task.{Task}
use Rattle.app_send.specs.declared.Unmade.{Unmade}
use Rattle.app_send.specs.declared.Unmade.TheVariants.{Faulty}
use Rattle.app_send.specs.declared.faults.Fault.{Fault}
use Rattle.app_send.specs.declared.both.Both.{Both}
use Rattle.app_send.specs.declared.pair.Pair.{Pair}
use Rattle.settings.specs.declared.Settings.{Settings}

-- what stands in front of a place stays
front_kept : (f at : ℕ) (bytes x y : List ℕ) (w : Result ℕ PlanRefusal) → at ≤ length x → Behind f bytes at x y w → take at y ≡ take at x
front_kept f at bytes x y w h b = ap (take at) b.left ∙ take_at (take at x) _ at (length-take-le at x h)

-- a full frame behind a place, and then a short one in its stead
pub changed_sent :
    (f g at : ℕ) (full short x y z : List ℕ) (v w : Result ℕ PlanRefusal) (r : Made)
    → at ≤ length x
    → Behind f full at x y v
    → length y ≡ length x
    → Behind g short at y z w
    → length z ≡ length y
    → r ≡ made_behind at w
    → Sent 0 g (take at x ++ short) z r
changed_sent f g at full short x y z v w r h a l b k e =
    behind_sent g at (take at x) short y z w r (front_kept f at full x y v h a) (length-take-le at x h) k b e

-- a stream that goes out stands at the start, and its size is its length
pub record Stands (bytes x : List ℕ) (size : ℕ) : Type 0 where
  pub front : take size x ≡ bytes
  pub long : size ≡ length bytes

pub stream_stands : (f : ℕ) (bytes x : List ℕ) (m : Made) → Sent 0 f bytes x m → made_number m ≡ 0 → Stands bytes x (made_size m)
unfolding ◌⨟◌ gone_out
stream_stands zero bytes x m s e =
    let t : take (made_size m) x ≡ bytes = sym (first-of x (made_size m) s.fits) ∙ s.gone in
    record { front = t; long = sym (length-take-le (made_size m) x s.fits) ∙ ap length t }
stream_stands (suc f) bytes x m s e = absurd (omega (arith, s.number_is, e))

-- the first fault decides
sent_stays : (f g : ℕ) (a b x : List ℕ) (m : Made) → Sent 0 f a x m → (made_number m ≡ 0 → ⊥) → Sent 0 (f ⨟ g) b x m
unfolding ◌⨟◌ gone_out
sent_stays zero g a b x m s h = absurd (h s.number_is)
sent_stays (suc f) g a b x m s h = record { fault_is = s.fault_is; number_is = s.number_is; fits = s.fits; gone = s.gone }

sent_on : (f g : ℕ) (b x : List ℕ) (r : Made) → 0 ≡ f → Sent 0 g b x r → Sent 0 (f ⨟ g) b x r
unfolding ◌⨟◌
sent_on zero g b x r e s = s
sent_on (suc f) g b x r e s = absurd (omega (arith, e))

module _ (t : Task) (old new ks : List ℕ) where
  pub both_none :
      (room : ℕ) (x : List ℕ) (why : Unmade)
      → Sent 0 (stream_fault t old room) (stream_of t old) x (Err why)
      → BothSent t old new ks room x (Err why)
  both_none room x why s =
      record { sent = sent_stays _ _ _ _ x (Err why) s (unmade_number why s.fault_is); short_is = tt; full_is = tt; tiles_is = tt }

  both_after :
      (room : ℕ) (x z : List ℕ) (size : ℕ) (r : Result Both Unmade)
      → Sent 0 (stream_fault t old room) (stream_of t old) x (Ok size)
      → length x ≡ room
      → Changed (next_task t) old new ks size x z r
      → BothSent t old new ks room z r
  both_after room x z size r s l c =
      let k = stream_stands _ _ x (Ok size) s refl in
      let left : length x - size ≡ room - length (stream_of t old) = omega (arith, k.long, l) in
      let fault : ℕ → ℕ = λ (j : ℕ). short_fault_in (next_task t) old new ks j in
      let one : Sent 0 (fault (room - length (stream_of t old))) (both_of t old new ks) z (both_made r)
      = subst (λ (j : ℕ). Sent 0 (fault j) (both_of t old new ks) z (both_made r)) left
      (subst (λ (a : List ℕ). Sent 0 (fault (length x - size)) (a ++ short_bytes (next_task t) new ks) z (both_made r)) k.front c.sent) in
      record {
        sent = sent_on _ _ _ z (both_made r) s.number_is one;
        short_is = IfOk-weaker r _ _ (λ b q. q ∙ ap (λ (j : ℕ). length_said (fault j) (short_bytes (next_task t) new ks)) left) c.short_is;
        full_is = IfOk-weaker r _ _ (λ b q. q ∙ ap (λ (j : ℕ). length_said (frame_fault (next_task t) new j) (frame_bytes (next_task t) new)) left) c.full_is;
        tiles_is = c.tiles_is;
      }

  pub both_is :
      (room : ℕ) (x z : List ℕ) (size : ℕ) (r : Result Both Unmade) (next : Task)
      → Sent 0 (stream_fault t old room) (stream_of t old) x (Ok size)
      → length x ≡ room
      → next ≡ next_task t
      → Changed next old new ks size x z r
      → BothSent t old new ks room z r
  both_is room x z size r next s l e c = both_after room x z size r s l (subst (λ (n : Task). Changed n old new ks size x z r) e c)

  pub change_is :
      (at : ℕ) (x y z : List ℕ) (v w : Result ℕ PlanRefusal) (r : Result Both Unmade)
      → at ≤ length x
      → Behind (frame_fault t new (length x - at)) (frame_bytes t new) at x y v
      → length y ≡ length x
      → Behind (short_fault_in t old new ks (length y - at)) (short_bytes t new ks) at y z w
      → length z ≡ length y
      → both_made r ≡ made_behind at w
      → IfOk r (λ (b : Both). b.short ≡ short_count w)
      → IfOk r (λ (b : Both). b.full ≡ short_count v)
      → IfOk r (λ (b : Both). b.tiles ≡ length ks)
      → Changed t old new ks at x z r
  change_is at x y z v w r h a l b k m p q n =
      let b' : Behind (short_fault_in t old new ks (length x - at)) (short_bytes t new ks) at y z w =
      subst (λ (j : ℕ). Behind (short_fault_in t old new ks (j - at)) (short_bytes t new ks) at y z w) l b in
      record {
        sent = changed_sent _ _ at (frame_bytes t new) (short_bytes t new ks) x y z v w (both_made r) h a l b' k m;
        short_is = IfOk-weaker r _ _ (λ _ e. e ∙ b'.said) p;
        full_is = IfOk-weaker r _ _ (λ _ e. e ∙ a.said) q;
        tiles_is = n;
      }

-- ---- files

module _ (s : Settings) (index : ℕ) (old new ks : List ℕ) (room : ℕ) (out' : List ℕ) (is : Result Pair Fault) where
  pub files_none : (fault : Fault) → Err fault ≡ is → FilesSent s index old new ks room is out' (Err (Faulty fault))
  files_none fault e = subst (λ (p : Result Pair Fault). FilesSent s index old new ks room p out' (Err (Faulty fault))) e (fault-sent fault out')

  pub files_is :
      (a b : List ℕ) (pair : Pair) (r : Result Both Unmade)
      → Ok pair ≡ is
      → a ≡ drop pair.old old
      → b ≡ drop pair.new new
      → BothSent (task s index pair.width pair.height) a b ks room out' r
      → FilesSent s index old new ks room is out' r
  files_is a b pair r e f g k =
      subst (λ (p : Result Pair Fault). FilesSent s index old new ks room p out' r) e
      (subst (λ (x : List ℕ). BothSent (task s index pair.width pair.height) x (drop pair.new new) ks room out' r) f
      (subst (λ (x : List ℕ). BothSent (task s index pair.width pair.height) a x ks room out' r) g k))
