-- An entry that is written is read.
use Rattle.std.proofs.Common.{◌≡◌, ℕ, ◌^◌, ◌<◌, Bool, true, false, nat_lt, lt-ltb, List, [], ◌∷◌, ◌++◌, Option, Some, None, ap, sym, ◌∙◌, refl, arith, if◌then◌else◌}
use Rattle.std.specs.Fmt.{decimal}
use Rattle.std.specs.Prelude.{codes, IfSome}
use Rattle.std.specs.Str.{bytes_eq}
use Rattle.std.proofs.lemmas.Bool.Decides.{nat_tests}
use Rattle.std.proofs.lemmas.Fmt.{decimal_nonempty}
use Rattle.std.proofs.lemmas.List.{append-nil, append_assoc}
use Rattle.handoff_data.specs.declared.entry.Entry.{Entry}
use Rattle.handoff_data.specs.declared.entry.Entry.TheVariants as entry
use Rattle.handoff_data.specs.declared.mask.CpuMask.{CpuMask}
use Rattle.handoff_data.specs.Mask.{HasCpu}
use Rattle.journal_text.specs.declared.keyword.Keyword.{Keyword}
use Rattle.journal_text.specs.declared.keyword.Keyword.TheVariants as keyword
use Rattle.journal_text.specs.Readable.{IsReadable}
use Rattle.journal_text.specs.Entries.{mask_of, by_list_of, at_of, list_of, enq_of, set_mask_of, stood_of, refused_of, entry_after}
use Rattle.journal_text.specs.Fields.{◌>>=◌, field_at, number_of, u64_at, u32_at, ended}
use Rattle.journal_text.specs.Spelling.{field, fields, by_text, at_text, mask_text}
use Rattle.journal_text.proofs.Digits.{decimal_digits}
use Rattle.journal_text.proofs.MaskBack.{mask_back, mask_word, mask_some, no_dash}
use Rattle.journal_text.proofs.Readback.{IsTail, field_word, number_decimal, u64_field, u32_field, two_read, three_read, word_from_digits}

list_back : (t m c e : ℕ) → t < 2 ^ 32 → m < 2 ^ 64 → c < 2 ^ 32 → e < 2 ^ 64 → list_of (fields (t ∷ m ∷ c ∷ e ∷ [])) ≡ Some (entry.List t m c e)
unfolding list_of
list_back t m c e ft fm fc fe =
    ap (λ o. o >>= λ t. u64_at t.1 >>= λ m. u32_at m.1 >>= λ c. u64_at c.1 >>= λ e. ended (entry.List t.0 m.0 c.0 e.0) e.1) (u32_field t (fields (m ∷ c ∷ e ∷ [])) ft refl)
    ∙ ap (λ o. o >>= λ m. u32_at m.1 >>= λ c. u64_at c.1 >>= λ e. ended (entry.List t m.0 c.0 e.0) e.1) (u64_field m (fields (c ∷ e ∷ [])) fm refl)
    ∙ ap (λ o. o >>= λ c. u64_at c.1 >>= λ e. ended (entry.List t m c.0 e.0) e.1) (u32_field c (fields (e ∷ [])) fc refl)
    ∙ ap (λ o. o >>= λ e. ended (entry.List t m c e.0) e.1) (u64_field e [] fe tt)

refused_back : (t s : ℕ) → t < 2 ^ 32 → s < 2 ^ 16 → refused_of (fields (t ∷ s ∷ [])) ≡ Some (entry.Refused t record { 0 = s })
unfolding refused_of
refused_back t s ft fs =
    let test : nat_lt s (2 ^ 16) ≡ true = grind (arith, nat_tests) in
    ap (λ o. o >>= λ x. if nat_lt x.1 (2 ^ 16) then Some (entry.Refused x.0 record { 0 = x.1 }) else None) (two_read t s ft (omega arith))
    ∙ ap (λ b. if b then Some (entry.Refused t record { 0 = s }) else None) test

after_two : (t m : ℕ) (more : List ℕ) → fields (t ∷ m ∷ []) ++ more ≡ field t ++ (field m ++ more)
after_two t m more = append_assoc (field t) (field m ++ []) more ∙ ap (λ x. field t ++ x) (append_assoc (field m) [] more)

-- three numbers, and more behind them
after_three : (t m c : ℕ) (more : List ℕ) → fields (t ∷ m ∷ c ∷ []) ++ more ≡ field t ++ (field m ++ (field c ++ more))
after_three t m c more = append_assoc (field t) (fields (m ∷ c ∷ [])) more ∙ ap (λ x. field t ++ x) (after_two m c more)

abbrev by_word : Bool → List ℕ
by_word false = codes "direct"
by_word true = codes "list"

by_tail : (b : Bool) → IsTail (by_text b)
by_tail false = refl
by_tail true = refl

by_back : (b : Bool) → field_at (by_text b) ≡ Some (by_word b, [])
by_back false = field_word (codes "direct") [] (omega arith) (refl, (refl, (refl, (refl, (refl, (refl, tt)))))) tt
by_back true = field_word (codes "list") [] (omega arith) (refl, (refl, (refl, (refl, tt)))) tt

by_said : (b : Bool) → by_list_of (by_word b) ≡ Some b
unfolding by_list_of
by_said false = refl
by_said true = refl

enq_back : (t m c : ℕ) (b : Bool) → t < 2 ^ 32 → m < 2 ^ 64 → c < 2 ^ 32 → enq_of (fields (t ∷ m ∷ c ∷ []) ++ by_text b) ≡ Some (entry.Enq t m c b)
unfolding enq_of
enq_back t m c b ft fm fc =
    ap enq_of (after_three t m c (by_text b))
    ∙ ap (λ o. o >>= λ t. u64_at t.1 >>= λ m. u32_at m.1 >>= λ c. field_at c.1 >>= λ word. by_list_of word.0 >>= λ by. ended (entry.Enq t.0 m.0 c.0 by) word.1)
    (u32_field t (field m ++ (field c ++ by_text b)) ft refl)
    ∙ ap (λ o. o >>= λ m. u32_at m.1 >>= λ c. field_at c.1 >>= λ word. by_list_of word.0 >>= λ by. ended (entry.Enq t m.0 c.0 by) word.1) (u64_field m (field c ++ by_text b) fm refl)
    ∙ ap (λ o. o >>= λ c. field_at c.1 >>= λ word. by_list_of word.0 >>= λ by. ended (entry.Enq t m c.0 by) word.1) (u32_field c (by_text b) fc (by_tail b))
    ∙ ap (λ o. o >>= λ word. by_list_of word.0 >>= λ by. ended (entry.Enq t m c by) word.1) (by_back b)
    ∙ ap (λ o. o >>= λ by. ended (entry.Enq t m c by) []) (by_said b)

mask_entry_back : (t r : ℕ) (mask : CpuMask) → t < 2 ^ 32 → r < 2 ^ 64 → ((c : ℕ) → HasCpu mask c → c < 16)
    → set_mask_of (fields (t ∷ r ∷ []) ++ (32 ∷ mask_text mask)) ≡ Some (entry.Mask t r mask)
unfolding set_mask_of
mask_entry_back t r mask ft fr small =
    ap set_mask_of (after_two t r (32 ∷ mask_text mask))
    ∙ ap (λ o. o >>= λ t. u64_at t.1 >>= λ r. field_at r.1 >>= λ word. mask_of word.0 >>= λ mask. ended (entry.Mask t.0 r.0 mask) word.1) (u32_field t (field r ++ (32 ∷ mask_text mask)) ft refl)
    ∙ ap (λ o. o >>= λ r. field_at r.1 >>= λ word. mask_of word.0 >>= λ mask. ended (entry.Mask t r.0 mask) word.1) (u64_field r (32 ∷ mask_text mask) fr refl)
    ∙ ap (λ o. o >>= λ word. mask_of word.0 >>= λ mask. ended (entry.Mask t r mask) word.1)
    (ap (λ w. field_at (32 ∷ w)) (sym (append-nil (mask_text mask))) ∙ field_word (mask_text mask) [] (mask_some mask) (mask_word mask) tt)
    ∙ ap (λ o. o >>= λ mask. ended (entry.Mask t r mask) []) (mask_back mask small)

abbrev at_word : Option ℕ → List ℕ
at_word None = codes "-"
at_word (Some c) = decimal c

at_back : (at : Option ℕ) → IfSome at (λ c. c < 2 ^ 32) → field_at (at_text at) ≡ Some (at_word at, [])
at_back None fits = field_word (codes "-") [] (omega arith) (refl, tt) tt
at_back (Some c) fits =
    ap (λ w. field_at (32 ∷ w)) (sym (append-nil (decimal c)))
    ∙ field_word (decimal c) [] (decimal_nonempty c (omega (arith, fits))) (word_from_digits (decimal c) (decimal_digits c (omega (arith, fits)))) tt

no_dash_alone : (c : ℕ) → c < 2 ^ 64 → bytes_eq (decimal c) (codes "-") ≡ false
no_dash_alone c fits = ap (λ w. bytes_eq w (codes "-")) (sym (append-nil (decimal c))) ∙ no_dash (decimal c) [] (decimal_digits c fits) (decimal_nonempty c fits)

at_said : (at : Option ℕ) → IfSome at (λ c. c < 2 ^ 32) → at_of (at_word at) ≡ Some at
unfolding at_of
at_said None fits = refl
at_said (Some c) fits =
    let test : nat_lt c (2 ^ 32) ≡ true = lt-ltb c (2 ^ 32) fits in
    ap (λ b. if b then Some None else number_of (decimal c) >>= λ c. if nat_lt c (2 ^ 32) then Some (Some c) else None) (no_dash_alone c (omega (arith, fits)))
    ∙ ap (λ o. o >>= λ c. if nat_lt c (2 ^ 32) then Some (Some c) else None) (number_decimal c (omega (arith, fits)))
    ∙ ap (λ b. if b then Some (Some c) else None) test

at_tail : (at : Option ℕ) → IsTail (at_text at)
at_tail None = refl
at_tail (Some c) = refl

stood_back : (t r m : ℕ) (at : Option ℕ) → t < 2 ^ 32 → r < 2 ^ 64 → m < 2 ^ 64 → IfSome at (λ c. c < 2 ^ 32)
    → stood_of (fields (t ∷ r ∷ m ∷ []) ++ at_text at) ≡ Some (entry.Stood t r m at)
unfolding stood_of
stood_back t r m at ft fr fm fa =
    ap stood_of (after_three t r m (at_text at))
    ∙ ap (λ o. o >>= λ t. u64_at t.1 >>= λ r. u64_at r.1 >>= λ m. field_at m.1 >>= λ word. at_of word.0 >>= λ at. ended (entry.Stood t.0 r.0 m.0 at) word.1)
    (u32_field t (field r ++ (field m ++ at_text at)) ft refl)
    ∙ ap (λ o. o >>= λ r. u64_at r.1 >>= λ m. field_at m.1 >>= λ word. at_of word.0 >>= λ at. ended (entry.Stood t r.0 m.0 at) word.1) (u64_field r (field m ++ at_text at) fr refl)
    ∙ ap (λ o. o >>= λ m. field_at m.1 >>= λ word. at_of word.0 >>= λ at. ended (entry.Stood t r m.0 at) word.1) (u64_field m (at_text at) fm (at_tail at))
    ∙ ap (λ o. o >>= λ word. at_of word.0 >>= λ at. ended (entry.Stood t r m at) word.1) (at_back at fa)
    ∙ ap (λ o. o >>= λ at. ended (entry.Stood t r m at) []) (at_said at fa)

-- the keyword of an entry
abbrev pub key : Entry → Keyword
key (entry.New t m c) = keyword.New
key (entry.Sleep t m c) = keyword.Sleep
key (entry.Wake t m) = keyword.Wake
key (entry.List t m c e) = keyword.List
key (entry.Enq t m c by_list) = keyword.Enq
key (entry.Out t m c) = keyword.Out
key (entry.In t m c) = keyword.In
key (entry.Die t m c) = keyword.Die
key (entry.Pick t n c) = keyword.Pick
key (entry.Finish t n c) = keyword.Finish
key (entry.Mask t r mask) = keyword.Mask
key (entry.Stood t r m at) = keyword.Stood
key (entry.Done t r) = keyword.Done
key (entry.Offline c e) = keyword.Offline
key (entry.Up c e) = keyword.Up
key (entry.Refused t state) = keyword.Refused

-- what stands behind the keyword
abbrev pub behind : Entry → List ℕ
behind (entry.New t m c) = fields (t ∷ m ∷ c ∷ [])
behind (entry.Sleep t m c) = fields (t ∷ m ∷ c ∷ [])
behind (entry.Wake t m) = fields (t ∷ m ∷ [])
behind (entry.List t m c e) = fields (t ∷ m ∷ c ∷ e ∷ [])
behind (entry.Enq t m c by_list) = fields (t ∷ m ∷ c ∷ []) ++ by_text by_list
behind (entry.Out t m c) = fields (t ∷ m ∷ c ∷ [])
behind (entry.In t m c) = fields (t ∷ m ∷ c ∷ [])
behind (entry.Die t m c) = fields (t ∷ m ∷ c ∷ [])
behind (entry.Pick t n c) = fields (t ∷ n ∷ c ∷ [])
behind (entry.Finish t n c) = fields (t ∷ n ∷ c ∷ [])
behind (entry.Mask t r mask) = fields (t ∷ r ∷ []) ++ (32 ∷ mask_text mask)
behind (entry.Stood t r m at) = fields (t ∷ r ∷ m ∷ []) ++ at_text at
behind (entry.Done t r) = fields (t ∷ r ∷ [])
behind (entry.Offline c e) = fields (c ∷ e ∷ [])
behind (entry.Up c e) = fields (c ∷ e ∷ [])
behind (entry.Refused t state) = fields (t ∷ state.0 ∷ [])

pub entry_back : (e : Entry) → IsReadable e → entry_after (key e) (behind e) ≡ Some e
unfolding entry_after
entry_back (entry.New t m c) r = ap (λ o. o >>= λ x. Some (entry.New x.0 x.1 x.2)) (three_read t m c r.0.0 r.0.1 r.1)
entry_back (entry.Sleep t m c) r = ap (λ o. o >>= λ x. Some (entry.Sleep x.0 x.1 x.2)) (three_read t m c r.0.0 r.0.1 r.1)
entry_back (entry.Wake t m) r = ap (λ o. o >>= λ x. Some (entry.Wake x.0 x.1)) (two_read t m r.0 r.1)
entry_back (entry.List t m c e) r = list_back t m c e r.0.0 r.0.1 r.1.0 r.1.1
entry_back (entry.Enq t m c by_list) r = enq_back t m c by_list r.0.0 r.0.1 r.1
entry_back (entry.Out t m c) r = ap (λ o. o >>= λ x. Some (entry.Out x.0 x.1 x.2)) (three_read t m c r.0.0 r.0.1 r.1)
entry_back (entry.In t m c) r = ap (λ o. o >>= λ x. Some (entry.In x.0 x.1 x.2)) (three_read t m c r.0.0 r.0.1 r.1)
entry_back (entry.Die t m c) r = ap (λ o. o >>= λ x. Some (entry.Die x.0 x.1 x.2)) (three_read t m c r.0.0 r.0.1 r.1)
entry_back (entry.Pick t n c) r = ap (λ o. o >>= λ x. Some (entry.Pick x.0 x.1 x.2)) (three_read t n c r.0.0 r.0.1 r.1)
entry_back (entry.Finish t n c) r = ap (λ o. o >>= λ x. Some (entry.Finish x.0 x.1 x.2)) (three_read t n c r.0.0 r.0.1 r.1)
entry_back (entry.Mask t r mask) x = mask_entry_back t r mask x.0.0 x.0.1 x.1
entry_back (entry.Stood t r m at) x = stood_back t r m at x.0.0 x.0.1 x.1 x.2
entry_back (entry.Done t r) x = ap (λ o. o >>= λ x. Some (entry.Done x.0 x.1)) (two_read t r x.0 x.1)
entry_back (entry.Offline c e) x = ap (λ o. o >>= λ x. Some (entry.Offline x.0 x.1)) (two_read c e x.0 x.1)
entry_back (entry.Up c e) x = ap (λ o. o >>= λ x. Some (entry.Up x.0 x.1)) (two_read c e x.0 x.1)
entry_back (entry.Refused t state) x = refused_back t state.0 x.0 x.1
