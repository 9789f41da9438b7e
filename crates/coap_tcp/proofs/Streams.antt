-- The frames of a stream are one list, however it is cut.
use Rattle.std.proofs.Common.{◌≡◌, ℕ, List, [], ◌∷◌, ◌++◌, refl, sym, ap, subst, ◌∙◌, append_assoc, inl, inr}
use Rattle.std.specs.List.{AllByRecursion}
use Rattle.std.proofs.lemmas.List.{append-nil}
use Rattle.coap_tcp.specs.declared.fault.FrameFault.{FrameFault}
use Rattle.coap_tcp.specs.Frames.{FrameValue, IsFrame, BeginsWith, frame_bytes}
use Rattle.coap_tcp.specs.FrameReading.{FrameCutValue, takes, waits, refuses, frame_at}
use Rattle.coap_tcp.specs.Streams.{frames_bytes, IsEnd, IsStream, joined, AreRead}
use Rattle.coap_tcp.proofs.CutValues.{frame_again, frame_still}

taken : FrameValue → FrameCutValue → FrameValue
taken instead (takes f) = f
taken instead waits = instead
taken instead (refuses fault) = instead

-- ---- the bytes determine the frames

record AreSame (fs gs : List FrameValue) (a b : List ℕ) : Type 0 where
  frames : fs ≡ gs
  rest : a ≡ b

first_of_stream : (f : FrameValue) (fs : List FrameValue) (rest : List ℕ) → IsFrame f → frame_at ((frame_bytes f ++ frames_bytes fs) ++ rest) ≡ takes f
first_of_stream f fs rest is = ap frame_at (append_assoc (frame_bytes f) (frames_bytes fs) rest) ∙ frame_again f (frames_bytes fs ++ rest) is

-- no frame begins what is the end
no_frame : (bytes : List ℕ) (end : FrameCutValue) (f : FrameValue) → frame_at bytes ≡ end → IsEnd end → frame_at bytes ≡ takes f → ⊥
no_frame bytes end f e ends t = subst IsEnd (sym e ∙ t) ends

left_same : (a b c : List ℕ) → a ++ b ≡ a ++ c → b ≡ c
left_same [] b c e = e
left_same (x ∷ a) b c e = left_same a b c (ap tail_of e)
  where
    tail_of : List ℕ → List ℕ
    tail_of [] = []
    tail_of (y ∷ ys) = ys

one_list : (fs gs : List FrameValue) (a b : List ℕ) (e p : FrameCutValue) → AllByRecursion IsFrame fs → AllByRecursion IsFrame gs → frames_bytes fs ++ a ≡ frames_bytes gs ++ b
    → frame_at a ≡ e → IsEnd e → frame_at b ≡ p → IsEnd p → AreSame fs gs a b
one_list [] [] a b e p x y same u v w z = record { frames = refl; rest = same }
one_list [] (g ∷ gs) a b e p x y same u v w z = absurd (no_frame a e g u v (ap frame_at same ∙ first_of_stream g gs b y.0))
one_list (f ∷ fs) [] a b e p x y same u v w z = absurd (no_frame b p f w z (ap frame_at (sym same) ∙ first_of_stream f fs a x.0))
one_list (f ∷ fs) (g ∷ gs) a b e p x y same u v w z =
    let both : takes f ≡ takes g = sym (first_of_stream f fs a x.0) ∙ ap frame_at same ∙ first_of_stream g gs b y.0 in
    let one : f ≡ g = cc in
    let behind : frames_bytes fs ++ a ≡ frames_bytes gs ++ b
    = left_same (frame_bytes f) (frames_bytes fs ++ a) (frames_bytes gs ++ b)
    (sym (append_assoc (frame_bytes f) (frames_bytes fs) a) ∙ same ∙ append_assoc (frame_bytes g) (frames_bytes gs) b ∙ ap (λ (h : FrameValue). frame_bytes h ++ (frames_bytes gs ++ b)) (sym one)) in
    let later = one_list fs gs a b e p x.1 y.1 behind u v w z in
    record { frames = λ i. one i ∷ later.frames i; rest = later.rest }

-- the bytes of a stream have one list of frames, one end and one rest
pub one_stream : (bytes : List ℕ) (fs gs : List FrameValue) (e p : FrameCutValue) (a b : List ℕ) → IsStream bytes fs e a → IsStream bytes gs p b → (fs ≡ gs) × (e ≡ p) × (a ≡ b)
one_stream bytes fs gs e p a b x y =
    let same = one_list fs gs a b e p x.are y.are (sym x.parts ∙ y.parts) x.as_cut x.ends y.as_cut y.ends in
    (same.frames, sym x.as_cut ∙ ap frame_at same.rest ∙ y.as_cut, same.rest)

-- ---- what follows later

are_both : (fs gs : List FrameValue) → AllByRecursion IsFrame fs → AllByRecursion IsFrame gs → AllByRecursion IsFrame (fs ++ gs)
are_both [] gs x y = y
are_both (f ∷ fs) gs x y = (x.0, are_both fs gs x.1 y)

bytes_both : (fs gs : List FrameValue) → frames_bytes (fs ++ gs) ≡ frames_bytes fs ++ frames_bytes gs
bytes_both [] gs = refl
bytes_both (f ∷ fs) gs = ap (λ (y : List ℕ). frame_bytes f ++ y) (bytes_both fs gs) ∙ sym (append_assoc (frame_bytes f) (frames_bytes fs) (frames_bytes gs))

-- what is waited with is read with what follows
pub stream_more : (bytes more : List ℕ) (fs gs : List FrameValue) (end : FrameCutValue) (between rest : List ℕ) → IsStream bytes fs waits between → IsStream (between ++ more) gs end rest → IsStream (bytes ++ more) (fs ++ gs) end rest
stream_more bytes more fs gs end between rest x y = record {
  are = are_both fs gs x.are y.are;
  parts = ap (λ (z : List ℕ). z ++ more) x.parts ∙ append_assoc (frames_bytes fs) between more ∙ ap (λ (z : List ℕ). frames_bytes fs ++ z) y.parts
      ∙ sym (append_assoc (frames_bytes fs) (frames_bytes gs) rest) ∙ ap (λ (z : List ℕ). z ++ rest) (sym (bytes_both fs gs));
  as_cut = y.as_cut;
  ends = y.ends;
}

-- a fault stays where bytes follow
pub refused_still : (bytes more : List ℕ) (fault : FrameFault) → frame_at bytes ≡ refuses fault → frame_at (bytes ++ more) ≡ refuses fault
refused_still bytes more fault e =
    elim (frame_still bytes more) [
      | inl w ↦ absurd (let bad : waits ≡ refuses fault = sym w ∙ e in cc)
      | inr same ↦ same ∙ e
    ]

-- a frame stays where bytes follow
pub taken_still : (bytes more : List ℕ) (f : FrameValue) → frame_at bytes ≡ takes f → frame_at (bytes ++ more) ≡ takes f
taken_still bytes more f e =
    elim (frame_still bytes more) [
      | inl w ↦ absurd (let bad : waits ≡ takes f = sym w ∙ e in cc)
      | inr same ↦ same ∙ e
    ]

pub stream_refused : (bytes more : List ℕ) (fs : List FrameValue) (fault : FrameFault) (rest : List ℕ) → IsStream bytes fs (refuses fault) rest → IsStream (bytes ++ more) fs (refuses fault) (rest ++ more)
stream_refused bytes more fs fault rest x = record {
  are = x.are;
  parts = ap (λ (z : List ℕ). z ++ more) x.parts ∙ append_assoc (frames_bytes fs) rest more;
  as_cut = refused_still rest more fault x.as_cut;
  ends = tt;
}

-- what is read in pieces is what stands in all of the bytes
pub read_stream : (buffered : List ℕ) (pieces : List (List ℕ)) (frames : List FrameValue) (end : FrameCutValue) → AreRead buffered pieces frames end → (rest : List ℕ) × IsStream (buffered ++ joined pieces) frames end rest
read_stream buffered [] frames end x = (x.0, subst (λ (y : List ℕ). IsStream y frames end x.0) (sym (append-nil buffered)) x.1)
read_stream buffered (piece ∷ pieces) frames end (inl x) =
    let still = stream_refused buffered (piece ++ joined pieces) frames x.0 x.1 x.2 in
    (x.1 ++ (piece ++ joined pieces), subst (λ (e : FrameCutValue). IsStream (buffered ++ (piece ++ joined pieces)) frames e (x.1 ++ (piece ++ joined pieces))) (sym x.3) still)
read_stream buffered (piece ∷ pieces) frames end (inr x) =
    let later = read_stream (x.1 ++ piece) pieces x.2 end x.4 in
    let so : IsStream (x.1 ++ (piece ++ joined pieces)) x.2 end later.0 = subst (λ (y : List ℕ). IsStream y x.2 end later.0) (append_assoc x.1 piece (joined pieces)) later.1 in
    (later.0, subst (λ (fs : List FrameValue). IsStream (buffered ++ (piece ++ joined pieces)) fs end later.0) (sym x.5) (stream_more buffered (piece ++ joined pieces) x.0 x.2 end x.1 later.0 x.3 so))

pub one_reading : (pieces others : List (List ℕ)) (fs gs : List FrameValue) (e p : FrameCutValue) → joined pieces ≡ joined others → AreRead [] pieces fs e → AreRead [] others gs p → (fs ≡ gs) × (e ≡ p)
one_reading pieces others fs gs e p same x y =
    let a = read_stream [] pieces fs e x in
    let b = read_stream [] others gs p y in
    let one = one_stream (joined others) fs gs e p a.0 b.0 (subst (λ (z : List ℕ). IsStream z fs e a.0) same a.1) b.1 in
    (one.0, one.1)

-- ---- one frame

pub begins_takes : (bytes : List ℕ) (f : FrameValue) (behind : List ℕ) → BeginsWith bytes f behind → frame_at bytes ≡ takes f
begins_takes bytes f behind x = ap frame_at x.parts ∙ frame_again f behind x.is

pub one_front : (bytes : List ℕ) (f g : FrameValue) (behind other : List ℕ) → BeginsWith bytes f behind → BeginsWith bytes g other → (f ≡ g) × (behind ≡ other)
one_front bytes f g behind other x y =
    let both : takes f ≡ takes g = sym (begins_takes bytes f behind x) ∙ begins_takes bytes g other y in
    let one : f ≡ g = cc in
    (one, left_same (frame_bytes f) behind other (sym x.parts ∙ y.parts ∙ ap (λ (h : FrameValue). frame_bytes h ++ other) (sym one)))

pub refused_never : (bytes more behind : List ℕ) (fault : FrameFault) (f : FrameValue) → frame_at bytes ≡ refuses fault → BeginsWith (bytes ++ more) f behind → ⊥
refused_never bytes more behind fault f e x = let bad : refuses fault ≡ takes f = sym (refused_still bytes more fault e) ∙ begins_takes (bytes ++ more) f behind x in cc
