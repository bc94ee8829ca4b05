-- What nodes and what was handed back have of storages.
use Rattle.std.specs.Option.{is_some}
use Rattle.std.specs.Vec.{vec_capacity}
use Rattle.std.proofs.Common.{◌≡◌, ℕ, Bool, true, false, not, List, [], ◌∷◌, ◌++◌, Option, Some, None, slice_get, if◌then◌else◌, length, length-append, refl, ap, sym, subst, ◌∙◌, append_assoc, append-nil, arith}
use Rattle.storage.specs.declared.release.NoOwner.{NoOwner}
use Rattle.storage.specs.declared.back.Back.{Back}
use Rattle.storage.specs.Back.{stakes_in}
use Rattle.buffer_model.specs.Segment.{Segment}
use Rattle.buffer_model.specs.Stake.{Stake, Keeps, KeepsTotals, KeepsTotalsBeside}
use Rattle.buffer_model.specs.Minted.{Numbers}
use Rattle.buffer_model.proofs.Totals.{keeps_same, keeps_equal, keeps_then, keeps-append, keeps_wrapped_out, total-append, one_way-append, one_way-front, one_way-back}
use Rattle.iobuf_chain.specs.Accounts.{held_by}
use Rattle.iobuf_chain.proofs.Accounts.{held_by-append}
use Rattle.frame_rule.specs.Hauls.{Begins, nodes_if, stakes_back}
use Rattle.frame_mark.specs.declared.mark.Finds.{Finds}
use Rattle.frame_mark.specs.Pieces.{GivesUp}

pub begins_same : {X : Type 0} (xs ys : List X) → ys ≡ xs → Begins xs ys
begins_same xs ys e = record { added = []; longer_is = e ∙ sym (append-nil xs) }

pub begins_further : {X : Type 0} (xs ys zs : List X) → Begins xs ys → Begins ys zs → Begins xs zs
begins_further xs ys zs p q = record {
  added = p.added ++ q.added;
  longer_is = q.longer_is ∙ ap (λ w. w ++ q.added) p.longer_is ∙ append_assoc xs p.added q.added;
}

stakes_back-append : (rs ss : List (List (Back NoOwner))) → stakes_back (rs ++ ss) ≡ stakes_back rs ++ stakes_back ss
stakes_back-append [] ss = refl
stakes_back-append (r ∷ rs) ss =
    ap (λ w. stakes_in r ++ w) (stakes_back-append rs ss) ∙ sym (append_assoc (stakes_in r) (stakes_back rs) (stakes_back ss))

-- two parts in the other order
swapped : (x y : List (Stake NoOwner)) → KeepsTotals (x ++ y) (y ++ x)
swapped x y n = record {
  total = let a = total-append n x y in let b = total-append n y x in omega (arith, a, b);
  way = λ kind is. one_way-append n kind y x (one_way-back n kind x y is) (one_way-front n kind x y is);
}

-- beside a part that stays
beside_front : (u v w : List (Stake NoOwner)) → KeepsTotals v w → KeepsTotals (u ++ v) (u ++ w)
beside_front u v w keeps n = keeps-append n u v u w (keeps_same u n) (keeps n)

beside_back : (u v w : List (Stake NoOwner)) → KeepsTotals v w → KeepsTotals (v ++ u) (w ++ u)
beside_back u v w keeps n = keeps-append n v u w u (keeps n) (keeps_same u n)

-- of three parts the first two in the other order
pub first_two : (x y z : List (Stake NoOwner)) → KeepsTotals ((x ++ y) ++ z) ((y ++ x) ++ z)
first_two x y z = beside_back z (x ++ y) (y ++ x) (swapped x y)

pub on_totals : (a b : Numbers) (x y z : List (Stake NoOwner)) → KeepsTotalsBeside a b x y → KeepsTotals y z → KeepsTotalsBeside a b x z
on_totals a b x y z keeps more n lt =
    let first = keeps n lt in record {
      total = (more n).total ∙ first.total;
      way = λ kind is. (more n).way kind (first.way kind is);
    }

-- what nodes hand back comes behind all that was handed back before
pub back_totals : (nodes : List (Segment NoOwner)) (r : List (Back NoOwner)) (bs cs : List (List (Back NoOwner))) → KeepsTotals (held_by nodes) (stakes_in r) → cs ≡ bs ++ r ∷ []
    → KeepsTotals (held_by nodes ++ stakes_back bs) (stakes_back cs)
back_totals nodes r bs cs given is =
    keeps_then _ _ _ (beside_back (stakes_back bs) (held_by nodes) (stakes_in r) given)
    (keeps_then _ _ _ (swapped (stakes_in r) (stakes_back bs))
    (keeps_equal _ _ (ap (λ w. stakes_back bs ++ w) (sym (append-nil (stakes_in r))) ∙ sym (stakes_back-append bs (r ∷ [])) ∙ ap (λ w. stakes_back w) (sym is))))

-- a node without a storage has nothing of one
pub nothing_totals : (s : Segment NoOwner) (nodes : List (Segment NoOwner)) (bs : List (List (Back NoOwner))) → nodes ≡ s ∷ [] → s.share.number ≡ None
    → KeepsTotals (held_by nodes ++ stakes_back bs) (stakes_back bs)
nothing_totals s nodes bs is none =
    let P : List (Segment NoOwner) → Type 0 = λ w. KeepsTotals (held_by w ++ stakes_back bs) (stakes_back bs) in
    subst P (sym is) (λ n. keeps-append n (held_by (s ∷ [])) (stakes_back bs) [] (stakes_back bs) (keeps_wrapped_out s.share none n) (keeps_same (stakes_back bs) n))

-- nodes were cut off, and went on
pub cut_totals : (a b : Numbers) (before after front nodes : List (Segment NoOwner)) (h k : List (Stake NoOwner)) → KeepsTotalsBeside a b (held_by before) (held_by (after ++ front))
    → KeepsTotals (held_by front ++ h) (held_by nodes ++ k) → KeepsTotalsBeside a b (held_by before ++ h) (held_by (after ++ nodes) ++ k)
cut_totals a b before after front nodes h k cut given n lt =
    let apart : held_by (after ++ front) ++ h ≡ held_by after ++ (held_by front ++ h) = ap (λ w. w ++ h) (held_by-append after front) ∙ append_assoc (held_by after) (held_by front) h in
    let joined : held_by after ++ (held_by nodes ++ k) ≡ held_by (after ++ nodes) ++ k = sym (ap (λ w. w ++ k) (held_by-append after nodes) ∙ append_assoc (held_by after) (held_by nodes) k) in
    let first : Keeps (held_by before ++ h) (held_by (after ++ front) ++ h) n = keeps-append n (held_by before) h (held_by (after ++ front)) h (cut n lt) (keeps_same h n) in
    let second : KeepsTotals (held_by (after ++ front) ++ h) (held_by (after ++ nodes) ++ k) =
    keeps_then _ _ _ (keeps_equal _ _ apart) (keeps_then _ _ _ (beside_front (held_by after) (held_by front ++ h) (held_by nodes ++ k) given) (keeps_equal _ _ joined)) in record {
      total = (second n).total ∙ first.total;
      way = λ kind is. (second n).way kind (first.way kind is);
    }

-- what stays of a chain and what was cut off it, in the other order
pub other_order : (x y : List (Segment NoOwner)) (h : List (Stake NoOwner)) → KeepsTotals (held_by (x ++ y) ++ h) (held_by (y ++ x) ++ h)
other_order x y h =
    keeps_then _ _ _ (keeps_equal _ _ (ap (λ w. w ++ h) (held_by-append x y)))
    (keeps_then _ _ _ (first_two (held_by x) (held_by y) h) (keeps_equal _ _ (ap (λ w. w ++ h) (sym (held_by-append y x)))))

-- the nodes in front went on
pub front_totals : (x y z : List (Segment NoOwner)) (h k : List (Stake NoOwner)) → KeepsTotals (held_by x ++ h) (held_by z ++ k) → KeepsTotals (held_by (x ++ y) ++ h) (held_by (z ++ y) ++ k)
front_totals x y z h k given =
    keeps_then _ _ _ (other_order x y h)
    (keeps_then _ _ _ (keeps_equal _ _ (ap (λ w. w ++ h) (held_by-append y x) ∙ append_assoc (held_by y) (held_by x) h))
    (keeps_then _ _ _ (beside_front (held_by y) (held_by x ++ h) (held_by z ++ k) given)
    (keeps_then _ _ _ (keeps_equal _ _ (sym (ap (λ w. w ++ k) (held_by-append y z) ∙ append_assoc (held_by y) (held_by z) k))) (other_order y z k))))

-- the nodes behind went on
pub behind_totals : (x y : List (Segment NoOwner)) (h k : List (Stake NoOwner)) → KeepsTotals (held_by y ++ h) k → KeepsTotals (held_by (x ++ y) ++ h) (held_by x ++ k)
behind_totals x y h k given =
    keeps_then _ _ _ (keeps_equal _ _ (ap (λ w. w ++ h) (held_by-append x y) ∙ append_assoc (held_by x) (held_by y) h))
    (beside_front (held_by x) (held_by y ++ h) k given)

pub one_node : {X : Type 0} (xs : List X) (x : X) (n : ℕ) → n ≡ length xs → n ≡ 1 → slice_get xs 0 ≡ Some x → xs ≡ x ∷ []
one_node [] x n size one is = absurd (omega (arith, size, one))
one_node (y ∷ []) x n size one is = let same : y ≡ x = cc in ap (λ w. w ∷ []) same
one_node (y ∷ z ∷ zs) x n size one is = absurd (omega (arith, size, one))

pub none_of : (o p : Option ℕ) (b : Bool) → is_some o ≡ not b → o ≡ p → b ≡ true → p ≡ None
none_of None p b is same holds = sym same
none_of (Some n) p true is same holds = absurd (cc is)
none_of (Some n) p false is same holds = absurd (cc holds)

-- a chain was given back
pub gives_back : (nodes : List (Segment NoOwner)) (h k : Finds) (r : List (Back NoOwner)) → KeepsTotals (held_by nodes) (stakes_in r) → k.marks ≡ h.marks → k.back.items ≡ h.back.items ++ r ∷ []
    → vec_capacity k.back ≡ vec_capacity h.back → GivesUp nodes h k
gives_back nodes h k r given same is room = record {
  marks = same;
  back = record { added = r ∷ []; longer_is = is };
  one = let e = ap length is ∙ length-append h.back.items (r ∷ []) in omega (arith, e);
  room = room;
  totals = back_totals nodes r h.back.items k.back.items given is;
}

pub gives_nothing : (s : Segment NoOwner) (nodes : List (Segment NoOwner)) (h : Finds) → nodes ≡ s ∷ [] → s.share.number ≡ None → GivesUp nodes h h
gives_nothing s nodes h is none = record {
  marks = refl;
  back = begins_same h.back.items h.back.items refl;
  one = omega arith;
  room = refl;
  totals = nothing_totals s nodes h.back.items is none;
}

-- no nodes
pub gives_none : (nodes : List (Segment NoOwner)) (h : Finds) → nodes ≡ [] → GivesUp nodes h h
gives_none nodes h none = record {
  marks = refl;
  back = begins_same h.back.items h.back.items refl;
  one = omega arith;
  room = refl;
  totals = let P : List (Segment NoOwner) → Type 0 = λ w. KeepsTotals (held_by w ++ stakes_back h.back.items) (stakes_back h.back.items) in subst P (sym none) (keeps_same (stakes_back h.back.items));
}

-- what was kept was given back, and nothing is kept
pub ended_totals : (kept now : Option (List (Segment NoOwner))) (bs cs ds : List (List (Back NoOwner))) → now ≡ None → cs ≡ bs → KeepsTotals (held_by (nodes_if kept) ++ stakes_back cs) (stakes_back ds)
    → KeepsTotals (held_by (nodes_if kept) ++ stakes_back bs) (held_by (nodes_if now ++ []) ++ stakes_back ds)
ended_totals kept now bs cs ds none same given =
    let P : Option (List (Segment NoOwner)) → Type 0 = λ w. KeepsTotals (held_by (nodes_if kept) ++ stakes_back bs) (held_by (nodes_if w ++ []) ++ stakes_back ds) in
    let Q : List (List (Back NoOwner)) → Type 0 = λ w. KeepsTotals (held_by (nodes_if kept) ++ stakes_back w) (stakes_back ds) in
    subst P (sym none) (subst Q same given)

-- what was kept is the batch
pub last_totals : (kept now : Option (List (Segment NoOwner))) (chain : List (Segment NoOwner)) (bs cs : List (List (Back NoOwner))) → now ≡ None → cs ≡ bs → chain ≡ nodes_if kept
    → KeepsTotals (held_by (nodes_if kept) ++ stakes_back bs) (held_by (nodes_if now ++ chain) ++ stakes_back cs)
last_totals kept now chain bs cs none same is =
    keeps_equal _ _ (ap (λ w. held_by w ++ stakes_back bs) (sym is) ∙ ap (λ w. held_by (nodes_if w ++ chain) ++ stakes_back bs) (sym none) ∙ ap (λ w. held_by (nodes_if now ++ chain) ++ stakes_back w) (sym same))

-- and nothing is kept
pub none_totals : (now : Option (List (Segment NoOwner))) (x : List (Stake NoOwner)) (bs : List (List (Back NoOwner))) → now ≡ None → KeepsTotals x (stakes_back bs) → KeepsTotals x (held_by (nodes_if now) ++ stakes_back bs)
none_totals now x bs none given =
    let P : Option (List (Segment NoOwner)) → Type 0 = λ w. KeepsTotals x (held_by (nodes_if w) ++ stakes_back bs) in
    subst P (sym none) given

-- from the same nodes and returns
pub start_totals : (a b : Numbers) (nodes xs : List (Segment NoOwner)) (bs cs : List (List (Back NoOwner))) (y : List (Stake NoOwner)) → xs ≡ nodes → cs ≡ bs → KeepsTotalsBeside a b (held_by xs ++ stakes_back cs) y
    → KeepsTotalsBeside a b (held_by nodes ++ stakes_back bs) y
start_totals a b nodes xs bs cs y is same keeps =
    let P : List (Segment NoOwner) → Type 0 = λ w. KeepsTotalsBeside a b (held_by w ++ stakes_back bs) y in
    let Q : List (List (Back NoOwner)) → Type 0 = λ w. KeepsTotalsBeside a b (held_by xs ++ stakes_back w) y in
    subst P is (subst Q same keeps)

-- nothing moved
pub same_totals : (a b : Numbers) (xs ys : List (Segment NoOwner)) (bs cs : List (List (Back NoOwner))) → ys ≡ xs → cs ≡ bs → KeepsTotalsBeside a b (held_by xs ++ stakes_back bs) (held_by ys ++ stakes_back cs)
same_totals a b xs ys bs cs is same n lt = keeps_equal _ _ (ap (λ w. held_by w ++ stakes_back bs) (sym is) ∙ ap (λ w. held_by ys ++ stakes_back w) (sym same)) n

-- a piece was given back, and what is kept stays
pub piece_totals : (a b : Numbers) (kept piece : List (Segment NoOwner)) (bs cs ds : List (List (Back NoOwner))) → cs ≡ bs → KeepsTotals (held_by piece ++ stakes_back cs) (stakes_back ds)
    → KeepsTotalsBeside a b (held_by (kept ++ piece) ++ stakes_back bs) (held_by (kept ++ []) ++ stakes_back ds)
piece_totals a b kept piece bs cs ds same given n lt =
    let Q : List (List (Back NoOwner)) → Type 0 = λ w. KeepsTotals (held_by piece ++ stakes_back w) (stakes_back ds) in
    keeps_then _ _ _ (behind_totals kept piece (stakes_back bs) (stakes_back ds) (subst Q same given)) (keeps_equal _ _ (ap (λ w. held_by w ++ stakes_back ds) (sym (append-nil kept)))) n

-- what stays of a chain is handed back, behind what was cut off it
pub rest_totals : (now : Option (List (Segment NoOwner))) (x y : List (Segment NoOwner)) (h : List (Stake NoOwner)) → now ≡ None → KeepsTotals (held_by (x ++ y) ++ h) (held_by (nodes_if now ++ (y ++ x)) ++ h)
rest_totals now x y h none =
    let P : Option (List (Segment NoOwner)) → Type 0 = λ w. KeepsTotals (held_by (x ++ y) ++ h) (held_by (nodes_if w ++ (y ++ x)) ++ h) in
    subst P (sym none) (other_order x y h)

-- or is kept
pub kept_totals : (x y z : List (Segment NoOwner)) (h k : List (Stake NoOwner)) → KeepsTotals (held_by x ++ h) (held_by z ++ k) → KeepsTotals (held_by (x ++ y) ++ h) (held_by (z ++ (y ++ [])) ++ k)
kept_totals x y z h k given = keeps_then _ _ _ (front_totals x y z h k given) (keeps_equal _ _ (ap (λ w. held_by (z ++ w) ++ k) (sym (append-nil y))))

pub begins_where : {X : Type 0} (b : Bool) (xs ys : List X) (x : X) → ys ≡ (if b then xs ++ x ∷ [] else xs) → Begins xs ys
begins_where true xs ys x e = record { added = x ∷ []; longer_is = e }
begins_where false xs ys x e = begins_same xs ys e
