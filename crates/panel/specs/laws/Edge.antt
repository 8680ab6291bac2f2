-- The calls for C are the panel's own: each promise follows from that call's answer.
use Rattle.std.specs.Prelude.{ℕ, ◌≡◌, refl, List, ℤ, Result}
use Rattle.std.proofs.Common.{ap, ◌∙◌, subst}
use Rattle.wire.specs.Refusal.{number_of, count_of}
use Rattle.wire.specs.Wrote.{Wrote}
use Rattle.wire.specs.declared.Refusal.{Refusal}
use Rattle.session.specs.declared.Session.{Session}
use Rattle.session.specs.Header.{header_record, header_reading}
use Rattle.code.specs.declared.read.Reading.{Reading}
use Rattle.code.specs.Read.{reading_number, reading_bits, ComponentRead}
use Rattle.frame.specs.Frame.{FrameRead}
use Rattle.frame_write.specs.FrameWrite.{FrameWritten}
use Rattle.panel.specs.Edge.{ReadHeaderCall, ReadFrameCall, ReadComponentCall, WriterCall, WriteFrameCall}

pub header-call :
    (s s' : Session) (m : List ℕ) (n : ℕ) (h : Result Session Refusal) → h ≡ header_reading s m → n ≡ number_of h → s' ≡ header_record h s →
    ReadHeaderCall s s' m n
header-call s s' m n h e f g = record { number = f ∙ ap number_of e; session = g ∙ ap (λ (x : Result Session Refusal). header_record x s) e }

pub frame-call :
    (word : ℕ) (s : Session) (m pic : List ℕ) (y cb cr tmp : List ℤ) (pic' : List ℕ) (y' cb' cr' tmp' : List ℤ) (tiles n : ℕ) (r : Result ℕ Refusal) →
    FrameRead word s m pic y cb cr tmp pic' y' cb' cr' tmp' r → tiles ≡ count_of r → n ≡ number_of r →
    ReadFrameCall word s s m pic y cb cr tmp pic' y' cb' cr' tmp' tiles n
frame-call word s m pic y cb cr tmp pic' y' cb' cr' tmp' tiles n r p e f =
    record {
      number = f ∙ ap number_of p.answer;
      count = e
          ∙ ap count_of p.answer;
      session = refl;
      lists = subst (FrameRead word s m pic y cb cr tmp pic' y' cb' cr' tmp') p.answer p;
    }

pub component-call :
    (mode : ℕ) (s : List ℕ) (before after : List ℤ) (bits n : ℕ) (r : Reading) → ComponentRead mode s before after r → bits ≡ reading_bits r →
    n ≡ reading_number r →
    ReadComponentCall mode s before after bits n
component-call mode s before after bits n r p e f =
    record { number = f ∙ ap reading_number p.answer; long = e ∙ ap reading_bits p.answer; list = subst (ComponentRead mode s before after) p.answer p }

pub write_call :
    (f : ℕ) (bytes out out' : List ℕ) (size n : ℕ) (r : Result ℕ Refusal) → Wrote f bytes out out' r → size ≡ count_of r → n ≡ number_of r →
    WriterCall f bytes out out' size n
write_call f bytes out out' size n r w e g = record { number = g ∙ w.number; long = e ∙ w.said; left = w.left }

pub frame_write_call :
    (w h mode : ℕ) (q : List ℕ) (index : ℕ) (p : List ℕ) (list list' scratch scratch' : List ℤ) (out out' : List ℕ) (size n : ℕ) (r : Result ℕ Refusal) →
    FrameWritten w h mode q index p list list' scratch scratch' out out' r → size ≡ count_of r → n ≡ number_of r →
    WriteFrameCall w h mode q index p list list' scratch scratch' out out' size n
frame_write_call w h mode q index p list list' scratch scratch' out out' size n r x e g =
    record { wrote = write_call _ _ _ _ _ _ r x.wrote e g; first = x.first; second = x.second }
