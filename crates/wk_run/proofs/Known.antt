-- Known bytes over several reads and writes.
use Rattle.std.proofs.Common.{◌≡◌, ℕ, ◌+◌, ◌-◌, ◌≤◌, List, [], ◌∷◌, ◌++◌, length, take, drop, refl, sym, ap, ◌∙◌, append_assoc, length-append, arith}
use Rattle.std.specs.Prelude.{Option, Some, None, Result, Ok, Err, OnErr}
use Rattle.std.proofs.lemmas.List.{append-nil, take-append-drop}
use Rattle.std.proofs.Math.Seq.{take-append_seam}
use Rattle.std.specs.Io.KnownBytes.{Appends, Consumes, Keeps}
use Rattle.wk_run.specs.Input.{TakesSome, WritesPart}

pub on_err : {T E P : Type 0} (r : Result T E) → P → OnErr r P
on_err (Ok x) p = tt
on_err (Err e) p = p

-- ---- reads

pub consumes-none : (held : Option (List ℕ)) (none : List ℕ) → none ≡ [] → Consumes held held none
consumes-none None none e = tt
consumes-none (Some xs) none e = rw e refl

pub consumes-more : (a b c : Option (List ℕ)) (xs ys zs : List ℕ) → zs ≡ xs ++ ys → Consumes a b xs → Consumes b c ys → Consumes a c zs
consumes-more None b c xs ys zs e p q = tt
consumes-more (Some l) None c xs ys zs e p q = absurd p
consumes-more (Some l) (Some m) None xs ys zs e p q = absurd q
consumes-more (Some l) (Some m) (Some n) xs ys zs e p q = rw (e, p, q) (sym (append_assoc xs ys n))

-- ---- writes

-- what of the bytes is written, before `rest`
pub record Written (before after : Option (List ℕ)) (bytes rest : List ℕ) : Type 0 where
  pub done : List ℕ
  pub whole : bytes ≡ done ++ rest
  pub appended : Appends before after done

appends-none : (held : Option (List ℕ)) → Appends held held []
appends-none None = tt
appends-none (Some xs) = sym (append-nil xs)

appends-more : (a b c : Option (List ℕ)) (xs ys : List ℕ) → Appends a b xs → Appends b c ys → Appends a c (xs ++ ys)
appends-more None b c xs ys p q = tt
appends-more (Some l) None c xs ys p q = absurd p
appends-more (Some l) (Some m) None xs ys p q = absurd q
appends-more (Some l) (Some m) (Some n) xs ys p q = rw (q, p) (append_assoc l xs ys)

pub appends-keeps : (a b c : Option (List ℕ)) (xs : List ℕ) → Appends a b xs → Keeps b c → Appends a c xs
appends-keeps None b c xs p q = tt
appends-keeps (Some l) None c xs p q = absurd p
appends-keeps (Some l) (Some m) None xs p q = absurd q
appends-keeps (Some l) (Some m) (Some n) xs p q = q ∙ p

pub written-none : (held : Option (List ℕ)) (bytes : List ℕ) → Written held held bytes bytes
written-none held bytes = record { done = []; whole = refl; appended = appends-none held }

pub written-more : (a b c : Option (List ℕ)) (bytes rest : List ℕ) (n : ℕ) → Written a b bytes rest → Appends b c (take n rest) → Written a c bytes (drop n rest)
written-more a b c bytes rest n w more = record {
  done = w.done ++ take n rest;
  whole = w.whole ∙ ap (λ z. w.done ++ z) (sym (take-append-drop n rest)) ∙ sym (append_assoc w.done (take n rest) (drop n rest));
  appended = appends-more a b c w.done (take n rest) w.appended more;
}

no_rest : (rest : List ℕ) → length rest ≡ 0 → rest ≡ []
no_rest [] e = refl
no_rest (x ∷ rest) e = absurd (omega arith)

-- all is written, and is kept
pub written-all : (a b c : Option (List ℕ)) (bytes rest : List ℕ) → Written a b bytes rest → length rest ≡ 0 → Keeps b c → Appends a c bytes
written-all a b c bytes rest w none kept =
    let all : bytes ≡ w.done = w.whole ∙ rw (no_rest rest none) (append-nil w.done) in
    rw all (appends-keeps a b c w.done w.appended kept)

-- a part is written, and is kept
pub written-part : (a b c : Option (List ℕ)) (bytes rest : List ℕ) → Written a b bytes rest → Keeps b c → WritesPart a c bytes
written-part a b c bytes rest w kept =
    let front : take (length w.done) bytes ≡ w.done = rw w.whole (take-append_seam w.done rest) in
    (length w.done, rw front (appends-keeps a b c w.done w.appended kept))

-- ---- what is read, so far

-- so many bytes more, which fit
pub reads-more : (limit n : ℕ) (a b c : Option (List ℕ)) (xs zs : List ℕ) → Consumes a b xs → TakesSome b c xs zs n → n ≤ limit + 1 - length xs → length xs ≤ limit
    → Consumes a c zs × (length zs ≤ limit + 1)
reads-more limit n a b c xs zs so_far more fits within = (
  consumes-more a b c xs more.some zs more.added so_far more.taken,
  rw (more.added, length-append xs more.some, more.counted) (omega arith),
)
