-- Whether a number and a word are a storage's.
use Rattle.std.proofs.Common.{◌≡◌, ◌⊎◌, ℕ, ◌&&◌, ◌==◌, Bool, true, false, refl, ap, inl, inr}
use Rattle.std.specs.Bool.{Decides}
use Rattle.std.specs.Str.{bytes_eq}
use Rattle.std.proofs.lemmas.Bool.Decides.{Decides-eqb, Decides-and, Decides-like, not_from_Decides}
use Rattle.std.proofs.lemmas.Slice.Eq.{bytes_eq-Decides}
use Rattle.atomic_table.specs.Seated.{TableId}
use Rattle.buffer_model.specs.Stake.{Storage, same_table, is_at}

-- all parts of two words are equal
record SameParts (t u : TableId) : Type 0 where
  words : t.words ≡ u.words
  slots : t.slots ≡ u.slots
  views_name : t.views_name ≡ u.views_name
  atom : t.atom ≡ u.atom
  block : t.block ≡ u.block
  offset : t.offset ≡ u.offset
  slot_names : t.slot_names ≡ u.slot_names

same_from_parts : (t u : TableId) → SameParts t u → t ≡ u
same_from_parts t u p = λ i. record {
  words = p.words i;
  slots = p.slots i;
  views_name = p.views_name i;
  atom = p.atom i;
  block = p.block i;
  offset = p.offset i;
  slot_names = p.slot_names i;
}

pub same_table-Decides : (t u : TableId) → Decides (same_table t u) (t ≡ u)
unfolding same_table
same_table-Decides t u =
    Decides-like (same_table t u)
    (λ e. same_from_parts t u (record {
      words = e.0;
      slots = e.1.0;
      views_name = e.1.1.0;
      atom = e.1.1.1.0;
      block = e.1.1.1.1.0;
      offset = e.1.1.1.1.1.0;
      slot_names = e.1.1.1.1.1.1;
    }))
    (λ e. (
      ap (λ (x : TableId). x.words) e,
      (
        ap (λ (x : TableId). x.slots) e,
        (
          ap (λ (x : TableId). x.views_name) e,
          (
            ap (λ (x : TableId). x.atom) e,
            (
              ap (λ (x : TableId). x.block) e,
              (
                ap (λ (x : TableId). x.offset) e,
                ap (λ (x : TableId). x.slot_names) e,
              ),
            ),
          ),
        ),
      ),
    ))
    (Decides-and _ _ (Decides-eqb t.words u.words)
    (Decides-and _ _ (Decides-eqb t.slots u.slots)
    (Decides-and _ _ (Decides-eqb t.views_name u.views_name)
    (Decides-and _ _ (Decides-eqb t.atom u.atom)
    (Decides-and _ _ (Decides-eqb t.block u.block)
    (Decides-and _ _ (Decides-eqb t.offset u.offset)
    (bytes_eq-Decides t.slot_names u.slot_names)))))))

is_at-Decides : (z : Storage) (number : ℕ) (table : TableId) → Decides (is_at z number table) ((number ≡ z.number) × (table ≡ z.table))
is_at-Decides z number table = Decides-and _ _ (Decides-eqb number z.number) (same_table-Decides table z.table)

cases_of : {P : Type 0} (b : Bool) → Decides b P → ((b ≡ true) × P) ⊎ ((b ≡ false) × (P → ⊥))
cases_of true d = inl (refl, d.0 refl)
cases_of false d = inr (refl, λ p. absurd (let e = d.1 p in cc))

-- a number and a word are the storage's, or they aren't
pub at_or_not : (z : Storage) (number : ℕ) (table : TableId)
    → ((is_at z number table ≡ true) × (number ≡ z.number) × (table ≡ z.table))
    ⊎ ((is_at z number table ≡ false) × (((number ≡ z.number) × (table ≡ z.table)) → ⊥))
at_or_not z number table = elim (cases_of (is_at z number table) (is_at-Decides z number table)) [
  | inl is ↦ inl (is.0, is.1.0, is.1.1)
  | inr not ↦ inr (not.0, not.1)
]
