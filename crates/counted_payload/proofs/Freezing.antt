-- A value is frozen for a lifetime of its own, and thaws with all of that lifetime's parts. Assumes `Logic`.
use Rattle.std.proofs.Common.{◌≡◌, ℕ, ◌+◌, ◌^◌, [], ◌∷◌}
use seplogic.Ra.Ura.{Ura}
use base.Fraction.{full_share}
use base.FractionLaws.{Counts, Counts-all}
use base.Logic.{ent, sep, upd_i, id⊢, apply∗, wand}
use base.Fml.{Lft, Incl, Incl-trans, Share, Fml, ftrue, fsep, fseps, fex, fwand, fupd, fdead, fbor, flft, flent}
use contract.BorrowLft.{meet_⊑_left, meet_⊑_right}
use contract.Monad.{fact}
use ghost.Rules.{Toks, span, thinned}
use types.Logic.{Logic, sem, lfts}
use types.Kit as Kit
use types.Kit.{‵, raw, ◌⊛◌, later, ◌$◌, ◌∵◌, !, qed, by, move, keep, drop, use1, use2, use3, split, split3, fsplit, fsplit3, fjoin, fjoin3, fpick, fpack, pick, assume, frame, suffices, await, updating, now, done}
use types.Tokens.{lft_new, lft_end, bor_new, lent_back, bor_open, obor_alter, bor_fracture, one_token}
use denote.Sharing.{ShrLaws, beside, one, held}
use denote.SharingLaws.{contraction, beside_shr_laws, one_shr_laws, held_shr_laws}
use denote.Moves.{moves_from}
use denote.Steps.{nothing}
use denote.Struct.Lending.{Lends, in_block_says}
use denote.RattleType.{RattleType}
use denote.RawPtr.{Ptr, InBlock}
use Rattle.counted_payload.specs.Parted.{tokens, part_owns}
use Rattle.counted_payload.proofs.Parts.{counted, token}

module _ {M : Type 1} {𝓤 : Ura M} (𝓛 : Logic 𝓤) where
  open 𝓛 use {H, A}

  -- What a share of κ's token does, and gives back, is done by any tokens that span κ: they hold such a share
  pub by_tokens : (κ : Lft) (P Q : Fml) → ((q : Share) → ent 𝓤 (sep 𝓤 (sem 𝓛 P) (A.lft κ q)) (H.⇛ (sep 𝓤 (sem 𝓛 Q) (A.lft κ q)))) → (ts : Toks) → Incl (span ts) κ
      → ent 𝓤 (sep 𝓤 (sem 𝓛 P) (lfts 𝓛 ts)) (H.⇛ (sep 𝓤 (sem 𝓛 Q) (lfts 𝓛 ts)))
  by_tokens κ P Q does ts spans = qed 𝓛 (‵ P ∷ raw (lfts 𝓛 ts) ∷ []) ∵ updating ! $ move ! (1 ∷ []) $
      use1 𝓛 (Kit.some (λ q. ‵ (flft (span ts) q) ⊛ raw (wand 𝓤 (A.lft (span ts) q) (lfts 𝓛 ts)))) (one_token 𝓛 ts) $ pick ! (λ q. let r = thinned κ q in split ! $
      use1 𝓛 (‵ (flft κ r) ⊛ raw (wand 𝓤 (A.lft κ r) (A.lft (span ts) q))) (𝓛.lfts.lft-incl (span ts) κ q spans) $ split ! $
      -- [the share; how it goes back to the span; how the span goes back; P]
      move ! (3 ∷ 0 ∷ []) $ use2 𝓛 (later (‵ Q ⊛ ‵ (flft κ r))) (does r) $ await ! tt $ split ! $ now ! $ frame ! $
      use2 𝓛 (‵ (flft (span ts) q)) (apply∗ 𝓤 (A.lft κ r) (A.lft (span ts) q)) $ use2 𝓛 (raw (lfts 𝓛 ts)) (apply∗ 𝓤 (A.lft (span ts) q) (lfts 𝓛 ts)) $ done !)

  abbrev Anew : Fml → ℕ → Fml
  Anew P a = fsep (fbor (a ∷ []) P) (fsep (flent (a ∷ []) P) (flft (a ∷ []) full_share))

  -- whatever is owned can be borrowed for a lifetime that begins now
  lends_anew : (P : Fml) → ent 𝓤 (sem 𝓛 P) (H.⇛ (sem 𝓛 (fex ℕ (Anew P))))
  lends_anew P = qed 𝓛 (‵ P ∷ []) ∵ updating ! $ lft_new ! tt (λ a. move ! (1 ∷ []) $ bor_new ! tt (a ∷ []) $ now ! $ fjoin3 ! $ fpack ! ℕ (Anew P) a $ done !)

  -- all parts end the lifetime, and the lender has what it lent
  pub thaws : (P : Fml) (a : ℕ) → ent 𝓤 (sep 𝓤 (sem 𝓛 (tokens a (2 ^ 62))) (sem 𝓛 (flent (a ∷ []) P))) (H.⇛ (sem 𝓛 P))
  thaws P a = qed 𝓛 (‵ (tokens a (2 ^ 62)) ∷ ‵ (flent (a ∷ []) P) ∷ []) ∵ use1 𝓛 (‵ (flft (a ∷ []) full_share)) (token 𝓛 a) $ updating ! $
      lft_end ! tt $ lent_back ! tt $ now ! $ done !

-- t says what is seen of the value for a lifetime
module _ (t : Lft → Fml) (L : ShrLaws t) where
  -- k parts, and what is seen as long as they last
  abbrev pub Owns : ℕ → ℕ → Fml
  Owns a k = fsep (tokens a k) (t (a ∷ []))

  abbrev pub Lent : ℕ → Lft → Fml
  Lent a = beside (one (λ q. flft (a ∷ []) q)) (held (a ∷ []) t)

  pub lent_laws : (a : ℕ) → ShrLaws (Lent a)
  lent_laws a = let parts = λ (q : Share). flft (a ∷ []) q in beside_shr_laws (one parts) (held (a ∷ []) t) (one_shr_laws parts) (held_shr_laws (a ∷ []) t L)

  module _ {M : Type 1} {𝓤 : Ura M} (𝓛 : Logic 𝓤) where
    open 𝓛 use {H, A}

    -- the lender's right, and all parts
    abbrev pub Frozen : Fml → ℕ → Fml
    Frozen P a = fsep (flent (a ∷ []) P) (Owns a (2 ^ 62))

    pub freezes : (P : Fml) (l μ : Lft) (q : Share) → Lends 𝓛 P t l → Incl μ l → ent 𝓤 (sep 𝓤 (sem 𝓛 P) (A.lft μ q)) (H.⇛ (sep 𝓤 (sem 𝓛 (fex ℕ (Frozen P))) (A.lft μ q)))
    freezes P l μ q lends lives = qed 𝓛 (‵ P ∷ ‵ (flft μ q) ∷ []) ∵ updating ! $ use1 𝓛 (later (‵ (fex ℕ (Anew 𝓛 P)))) (lends_anew 𝓛 P) $ await ! tt $ fpick ! (λ a. fsplit3 ! $
        -- [the borrow; the lender's right; the new token; μ's]
        let both : Toks = (a ∷ [], full_share) ∷ (μ, q) ∷ [] in move ! (0 ∷ 2 ∷ 3 ∷ []) $
        use3 𝓛 (later (‵ (t (a ∷ [])) ⊛ ‵ (flft (a ∷ []) full_share) ⊛ ‵ (flft μ q))) (lends (a ∷ []) both (Incl-trans (meet_⊑_right (a ∷ []) μ) lives) (meet_⊑_left (a ∷ []) μ)) $
        await ! tt $ split3 ! $ move ! (1 ∷ []) $ use1 𝓛 (‵ (tokens a (2 ^ 62))) (counted 𝓛 a (2 ^ 62) full_share (Counts-all 62)) $
        fjoin ! $ move ! (2 ∷ []) $ fjoin ! $ fpack ! ℕ (Frozen P) a $ now ! $ done !)

    module _ (a k : ℕ) (κ : Lft) where
      -- how a share of a's token becomes the k parts again once κ is over
      abbrev Back : Share → Fml
      Back e = fwand (fsep (fdead κ) (fseps (flft (a ∷ []) e ∷ []))) (fupd (Owns a k))

      -- what is seen is had twice: one stays in sight, the other goes home with the share
      seen_twice : (e : Share) → Counts 62 e k → ent 𝓤 (sem 𝓛 (t (a ∷ []))) (sep 𝓤 (sem 𝓛 (t (a ∷ []))) (sem 𝓛 (Back e)))
      unfolding fseps
      seen_twice e count = qed 𝓛 (‵ (t (a ∷ [])) ∷ []) ∵ use1 𝓛 (‵ (t (a ∷ [])) ⊛ ‵ (t (a ∷ []))) (contraction 𝓛 t L (a ∷ [])) $ split ! $ frame ! $
          assume ! (‵ (fsep (fdead κ) (fsep (flft (a ∷ []) e) ftrue))) $ suffices ! (sem 𝓛 (Owns a k)) (upd_i 𝓤 (sem 𝓛 (Owns a k))) $
          fsplit3 ! $ drop ! $ use1 𝓛 (‵ (tokens a k)) (counted 𝓛 a k e count) $ keep ! (0 ∷ 2 ∷ []) $ fjoin ! $ done !

      -- a borrow of k parts is a share of their token, fractured, beside what they show
      shown : (q : Share) → ent 𝓤 (sep 𝓤 (A.bor κ (Owns a k)) (A.lft κ q)) (H.⇛ (sep 𝓤 (sem 𝓛 (Lent a κ)) (A.lft κ q)))
      unfolding fseps
      shown q = qed 𝓛 (‵ (fbor κ (Owns a k)) ∷ ‵ (flft κ q) ∷ []) ∵ updating ! $ bor_open ! tt $ move ! (1 ∷ []) $ fsplit ! $ fpick ! (λ e. fpick ! (λ count. move ! (1 ∷ []) $
          use1 𝓛 (‵ (t (a ∷ [])) ⊛ ‵ (Back e)) (seen_twice e count) $ split ! $ nothing ! $ move ! (3 ∷ 0 ∷ []) $ fjoin ! $
          -- [the share; what is seen; the way back; the open borrow]
          move ! (3 ∷ 0 ∷ 2 ∷ []) $ obor_alter ! tt (flft (a ∷ []) e ∷ []) $ use1 𝓛 (‵ (fbor κ (flft (a ∷ []) e)) ⊛ ‵ ftrue) (id⊢ 𝓤 _) $ split ! $
          bor_fracture ! tt (λ r. flft (a ∷ []) r) e $ now ! $ move ! (0 ∷ 3 ∷ []) $ fjoin ! $ keep ! (0 ∷ 2 ∷ []) $ done !))

    pub Lends-part : (a k : ℕ) (l : Lft) → Lends 𝓛 (Owns a k) (Lent a) l
    Lends-part a k l κ ts inside spans = by_tokens 𝓛 κ (fbor κ (Owns a k)) (Lent a κ) (shown a k κ) ts spans

    -- the share is of a lifetime that lasts as long as κ, so what it shows is seen for κ
    pub in_sight : (a : ℕ) (κ : Lft) → ent 𝓤 (sem 𝓛 (Lent a κ)) (sem 𝓛 (t κ))
    in_sight a κ = qed 𝓛 (‵ (Lent a κ) ∷ []) ∵ fsplit ! $ by ! (moves_from 𝓛 t L κ (a ∷ []) (a ∷ []) (meet_⊑_left (a ∷ []) κ))

-- parts show where their value lies
pub lies_somewhere : {M : Type 1} {𝓤 : Ura M} (𝓛 : Logic 𝓤) (R : RattleType) (p : Ptr) (x : R.Denot) (a k : ℕ) → ent 𝓤 (sem 𝓛 (part_owns R p x a k)) (fact 𝓤 (InBlock p))
lies_somewhere 𝓛 R p x a k = qed 𝓛 (‵ (part_owns R p x a k) ∷ []) ∵ fsplit ! $ move ! (1 ∷ []) $ fsplit ! $ keep ! (0 ∷ []) $ by ! (in_block_says 𝓛 p)
