-- Masks, a number at a time.
use Rattle.std.proofs.Common.{◌≡◌, ℕ, ◌≤◌, List, ◌∷◌, Some, None, length, take, drop, ap, sym, ◌∙◌}
use Rattle.std.specs.List.{slice_split, position_or_len}
use Rattle.handoff_data.specs.declared.mask.CpuMask.{CpuMask}
use Rattle.handoff_data.specs.Mask.{mask_with}
use Rattle.journal_text.specs.Entries.{is_comma, cpu_of, mask_from}
use Rattle.journal_text.specs.Fields.{◌>>=◌}
use Rattle.journal_text.proofs.Parts.{parts}

-- where the first comma stands
abbrev pub comma_at : List ℕ → ℕ
comma_at rest = position_or_len is_comma rest

pub mask_none : (mask : CpuMask) (rest first : List ℕ) → comma_at rest ≤ length rest → first ≡ take (comma_at rest) rest
    → cpu_of first ≡ None → mask_from mask (slice_split is_comma rest) ≡ None
mask_none mask rest first within front none =
    let p = parts is_comma rest within in
    ap (mask_from mask) p.is ∙ ap (λ o. o >>= λ c. mask_from (mask_with mask c) p.others) (ap cpu_of (sym front) ∙ none)

pub mask_last : (mask : CpuMask) (rest first others : List ℕ) (c : ℕ) → comma_at rest ≤ length rest → first ≡ take (comma_at rest) rest
    → others ≡ drop (comma_at rest) rest → length others ≡ 0 → cpu_of first ≡ Some c
    → mask_from mask (slice_split is_comma rest) ≡ Some (mask_with mask c)
mask_last mask rest first others c within front back none some =
    let p = parts is_comma rest within in
    ap (mask_from mask) p.is ∙ ap (λ o. o >>= λ c. mask_from (mask_with mask c) p.others) (ap cpu_of (sym front) ∙ some)
    ∙ ap (mask_from (mask_with mask c)) (p.last (ap length (sym back) ∙ none))

pub mask_more : (mask : CpuMask) (rest first others : List ℕ) (c b : ℕ) (more : List ℕ) → comma_at rest ≤ length rest
    → first ≡ take (comma_at rest) rest → others ≡ drop (comma_at rest) rest → others ≡ b ∷ more → cpu_of first ≡ Some c
    → mask_from mask (slice_split is_comma rest) ≡ mask_from (mask_with mask c) (slice_split is_comma more)
mask_more mask rest first others c b more within front back cons some =
    let p = parts is_comma rest within in
    ap (mask_from mask) p.is ∙ ap (λ o. o >>= λ c. mask_from (mask_with mask c) p.others) (ap cpu_of (sym front) ∙ some)
    ∙ ap (mask_from (mask_with mask c)) (p.more b more (sym back ∙ cons))
