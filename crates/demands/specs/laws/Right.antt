-- Requests Six and Thirteen over the calls: the proof of `RecordRight` and of `RecordGlass`, from the header call's laws and the frame call's promise.
-- (01 is this project's scope document, 02 its change requests, 001 is MS-RDPRFX: README, "What 01 is".)
use Rattle.std.specs.Prelude.{ℕ, ◌≤◌, ◌<◌, ◌≡◌, refl, false, List, length, Result}
use Rattle.wire.specs.Refusal.{number_of}
use Rattle.std.proofs.Common.{sym, ap, ◌∙◌, arith}
use Rattle.std.proofs.Math.Path.{subst⁻¹}
use Rattle.whole.specs.Row.{◌⇒◌∣◌}
use Rattle.wire.specs.Le.{le16}
use Rattle.session.specs.declared.Session.{Session}
use Rattle.wire.specs.declared.Refusal.{Refusal}
use Rattle.session.specs.Header.{record_of, Right, made, kept_glass, record_after, header_record, header_reading}
use Rattle.session.specs.laws.Header.{right_at, other_glass}
use Rattle.session.specs.laws.Right.{right_reading, glass_reading, wrong_made, glass_made, wrong_ready, wrong_header, sync_any}
use Rattle.calls.specs.Calls.{ReadHeader, session_after, ReadFrame, as_frame, OnOneRecord, no_call, header, frame}
use Rattle.calls.specs.laws.Calls.{header-number, header_taken, unready_frame, other_size}
use Rattle.demands.specs.Demands.{RecordRight, RecordGlass}

right_after : (c : ReadHeader) → Right c.session → Right (session_after c)
right_after c r = subst⁻¹ (λ (h : Result Session Refusal). Right (header_record h c.session)) c.promise (right_reading c.session c.message r)

right_always : (s t : Session) → OnOneRecord s t → Right s → Right t
right_always s t no_call r = r
right_always s t (header c k) r = right_always _ t k (subst⁻¹ Right c.promise.session (right_reading c.session c.message r))
right_always s t (frame c k) r = right_always _ t k (subst⁻¹ Right c.promise.session r)

wrong_frame : (c : ReadFrame) → (Right c.session → ⊥) → number_of c.answer ≡ 12
wrong_frame c w = unready_frame c (wrong_ready c.session (wrong_made c.session w))

-- what a header other than a sync is answered with a record that no calls could have made
unmade_header : (c : ReadHeader) → made c.session ≡ false → 6 ≤ length c.message → 0xCCC1 ≤ le16 c.message 0 → le16 c.message 0 ≤ 0xCCC3 →
    number_of c.answer ≡ 12
unmade_header c w some least most = header-number c ∙ wrong_header c.session c.message w some least most

pub record_right : RecordRight
record_right = record {
  fresh = λ glass. right_at glass 0 0 0 0;
  right_after = right_after;
  right_always = right_always;
  wrong_header = λ c w some least most. unmade_header c (wrong_made c.session w) some least most;
  wrong_frame = wrong_frame;
  any_sync = λ c d m g e.
      c.promise ∙ (sync_any c.session d.session c.message (ap kept_glass g) e ∙ (ap (header_reading d.session) m ∙ sym d.promise));
}

-- ---- the glass

glass_kept : (c : ReadHeader) → c.session.glass ≤ 1 → (session_after c).glass ≡ c.session.glass
glass_kept c l = ap (λ (h : Result Session Refusal). (header_record h c.session).glass) c.promise ∙ glass_reading c.session c.message l

-- one call more
glass_on : (s t : Session) → s.glass ≤ 1 → t.glass ≡ s.glass → t.glass ≤ 1
glass_on s t l e = omega (arith, l, e)

glass_always : (s t : Session) → OnOneRecord s t → s.glass ≤ 1 → t.glass ≡ s.glass
glass_always s t no_call l = refl
glass_always s t (header c k) l =
    let e = ap (λ (x : Session). x.glass) c.promise.session ∙ glass_reading c.session c.message l in
    glass_always _ t k (glass_on c.session c.session' l e) ∙ e
glass_always s t (frame c k) l =
    let e = ap (λ (x : Session). x.glass) c.promise.session in
    glass_always _ t k (glass_on c.session c.session' l e) ∙ e

sync_record : (s : Session) (m : List ℕ) → 1 < s.glass → le16 m 0 ≡ 0xCCC0 → record_after s m ≡ record_of 0 1 0 0 0
unfolding record_after ◌⇒◌∣◌
sync_record s m l e = rw (e, other_glass s.glass l)

pub record_glass : RecordGlass
record_glass = record {
  glass_kept = glass_kept;
  glass_always = glass_always;
  other_size = other_size;
  other_size_c = λ c r n. c.promise.number ∙ other_size (as_frame c) r n;
  other_header = λ c l some least most. unmade_header c (glass_made c.session l) some least most;
  other_frame = λ c l. unready_frame c (wrong_ready c.session (glass_made c.session l));
  other_sync = λ c l e z. header_taken c z ∙ sync_record c.session c.message l e;
}
