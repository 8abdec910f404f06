-- A trace of an analysis is one of the analysis that is left open, and so a table of it is one that is left open nowhere.
use Rattle.std.proofs.Common.{◌≡◌, ◌∙◌, ℕ, Bool, true, false, List, [], ◌∷◌, ◌++◌, Option, Some, None, fold, refl, sym, ap, subst}
use Rattle.std.proofs.lemmas.List.{append-nil}
use Rattle.std.specs.Prelude.{◌==◌, if◌then◌else◌}
use Rattle.fixpoint_theory.specs.Analysis.{Analysis}
use Rattle.fixpoint_theory.specs.Code.{is_code}
use Rattle.fixpoint_theory.specs.Outcome.{Moves, Outcome, moves, sends, too_many, undecodable}
use Rattle.fixpoint_theory.specs.WorklistState.{IsComplete, IsLeastPending, IsLegal, IsLegalFrom, WorklistState, Reached, arrival, arrive, arrive_all, arrive_as_sent, arrived, begin, changed, done, nowhere, worklist_state, sent, transferred, transferred_from}
use Rattle.fixpoint_theory.specs.Table.{IsBlockOf, IsTableOf, Listing, Listings, Tells}
use Rattle.fixpoint_open_tables.specs.Endings.{Endings, IsNowhereOpen, ending_at}
use Rattle.fixpoint_open_tables.specs.LeftOpen.{ending_of, left_open, opened}
use Rattle.fixpoint_open_tables.specs.declared.ending.Ending.{Ending}
use Rattle.spec_ir.specs.Specification.{Spec}
use Rattle.code_image.specs.Image.{Image, addresses}
use Rattle.text_tables.specs.Open.{AreOpenBlocks, IsOpenAt, IsOpenTableText, ending_text}
use Rattle.text_tables.specs.Open as opens
use Rattle.text_tables.specs.Tables.{AreBlocks, IsAt, IsTableText}
use Rattle.text_tables.specs.Tables as closed
use Rattle.analysis_transfer_laws.specs.Problem.{Problem}
use Rattle.analysis_transfer_laws.proofs.OpenRuns.{open_truth_is_truth}
use Rattle.program_domains.specs.Analyses.{IsTable, analysis}
use Rattle.program_domains.specs.Domains.{DomainOf}
use Rattle.program_domains.specs.OpenAnalyses.{IsOpenTable, open_endings}

module _ {E W S : Type 0} (A : Analysis E W S) where
  -- the same stands at each address
  abbrev Same : WorklistState E → WorklistState E → Type 0
  Same p q = (a : ℕ) → p a ≡ q a

  arrival_same : (b : Bool) (new : E) (r : Reached E) → arrival A b new r ≡ arrival (left_open A) b new r
  arrival_same true new r = refl
  arrival_same false new r = refl

  arrived_same : (new : E) (o : Option (Reached E)) → arrived A new o ≡ arrived (left_open A) new o
  arrived_same new None = refl
  arrived_same new (Some r) = ap (λ (x : Reached E). Some x) (arrival_same (A.elements.absorbs r.elem new) new r)

  changed_same : (b : Bool) (new : E) (o u : Option (Reached E)) → o ≡ u → (if b then arrived A new o else o) ≡ (if b then arrived (left_open A) new u else u)
  changed_same true new o u same = ap (arrived A new) same ∙ arrived_same new u
  changed_same false new o u same = same

  arrive_same : (new : E) (p q : WorklistState E) (at : ℕ) → Same p q → Same (arrive A new p at) (arrive (left_open A) new q at)
  arrive_same new p q at same a = by_code (is_code A.code at)
    where
      by_code : (b : Bool) → (if b then changed at (arrived A new) p else p) a ≡ (if b then changed at (arrived (left_open A) new) q else q) a
      by_code true = changed_same (a == at) new (p a) (q a) (same a)
      by_code false = same a

  all_same : (new : E) (targets : List ℕ) (p q : WorklistState E) → Same p q → Same (fold (arrive A new) p targets) (fold (arrive (left_open A) new) q targets)
  all_same new [] p q same = same
  all_same new (to ∷ targets) p q same = all_same new targets (arrive A new p to) (arrive (left_open A) new q to) (arrive_same new p q to same)

  post_same : (post : Option E) (targets : List ℕ) (p q : WorklistState E) → Same p q → Same (arrive_all A post targets p) (arrive_all (left_open A) post targets q)
  post_same None targets p q same = same
  post_same (Some new) targets p q same = all_same new targets p q same

  each_same : (arrivals : List (ℕ × E)) (p q : WorklistState E) → Same p q → Same (arrive_as_sent A arrivals p) (arrive_as_sent (left_open A) arrivals q)
  each_same [] p q same = same
  each_same (x ∷ rest) p q same = each_same rest (arrive A x.1 p x.0) (arrive (left_open A) x.1 q x.0) (arrive_same x.1 p q x.0 same)

  sent_same : (given : Outcome E W) → Moves given → (p q : WorklistState E) → Same p q → Same (sent A given p) (sent (left_open A) (opened given) q)
  sent_same (undecodable word) m p q same = absurd m
  sent_same (too_many shown uses) m p q same = absurd m
  sent_same (moves targets post uses) m p q same = post_same post targets p q same
  sent_same (sends arrivals uses) m p q same = each_same arrivals p q same

  done_same : (at : ℕ) (p q : WorklistState E) → Same p q → Same (changed at done p) (changed at done q)
  done_same at p q same a = ap (λ (o : Option (Reached E)). if a == at then done o else o) (same a)

  -- the transfer of what stands at an address
  transferred_same : (at : ℕ) (r : Reached E) (p q : WorklistState E) → p at ≡ Some r → Moves (A.transfer at r.elem) → Same p q → Same (transferred A p at) (transferred (left_open A) q at)
  transferred_same at r p q stands m same a =
      ap (λ (o : Option (Reached E)). transferred_from A o p at a) stands
      ∙ sent_same (A.transfer at r.elem) m (changed at done p) (changed at done q) (done_same at p q same) a
      ∙ ap (λ (o : Option (Reached E)). transferred_from (left_open A) o q at a) (sym (sym (same at) ∙ stands))

  least_same : (at : ℕ) (r : Reached E) (p q : WorklistState E) → Same p q → IsLeastPending p at r → IsLeastPending q at r
  least_same at r p q same is = record {
    stands = sym (same at) ∙ is.stands;
    pending = is.pending;
    least = λ b s stands pending. is.least b s (same b ∙ stands) pending;
  }

  moves_too : (given : Outcome E W) → Moves given → Moves (opened given)
  moves_too (undecodable word) m = absurd m
  moves_too (too_many shown uses) m = absurd m
  moves_too (moves targets post uses) m = m
  moves_too (sends arrivals uses) m = m

  legal_same : (trace : List ℕ) (p q : WorklistState E) → Same p q → IsLegalFrom A p trace → IsLegalFrom (left_open A) q trace
  legal_same [] p q same legal = tt
  legal_same (at ∷ rest) p q same ((r, least, m), more) =
      ((r, least_same at r p q same least, moves_too (A.transfer at r.elem) m), legal_same rest (transferred A p at) (transferred (left_open A) q at) (transferred_same at r p q least.stands m same) more)

  play_same : (trace : List ℕ) (p q : WorklistState E) → Same p q → IsLegalFrom A p trace → Same (fold (transferred A) p trace) (fold (transferred (left_open A)) q trace)
  play_same [] p q same legal = same
  play_same (at ∷ rest) p q same ((r, least, m), more) =
      play_same rest (transferred A p at) (transferred (left_open A) q at) (transferred_same at r p q least.stands m same) more

  begin_same : Same (begin A) (begin (left_open A))
  begin_same = arrive_same A.entry nowhere nowhere A.start (λ a. refl)

  -- the tables
  tells_too : (b : Listing E) (given : Outcome E W) → Tells A b given → Tells (left_open A) b (opened given)
  tells_too b (undecodable word) t = absurd t
  tells_too b (too_many shown uses) t = absurd t
  tells_too b (moves targets post uses) t = t
  tells_too b (sends arrivals uses) t = t

  block_same : (at : ℕ) (o : Option (Listing E)) (r : Option (Reached E)) → IsBlockOf A at o r → IsBlockOf (left_open A) at o r
  block_same at None None is = tt
  block_same at None (Some r) is = absurd is
  block_same at (Some b) None is = absurd is
  block_same at (Some b) (Some r) is = (is.0, tells_too b (A.transfer at b.elem) is.1)

  legal_too : (trace : List ℕ) → IsLegal A trace → IsLegal (left_open A) trace
  legal_too trace legal = legal_same trace (begin A) (begin (left_open A)) begin_same legal

  same_play : (trace : List ℕ) → IsLegal A trace → Same (worklist_state A trace) (worklist_state (left_open A) trace)
  same_play trace legal = play_same trace (begin A) (begin (left_open A)) begin_same legal

  full_too : (trace : List ℕ) → IsLegal A trace → IsComplete (worklist_state A trace) → IsComplete (worklist_state (left_open A) trace)
  full_too trace legal complete a r stands = complete a r (same_play trace legal a ∙ stands)

  table_too : (trace : List ℕ) (t : Listings E) → IsLegal A trace → IsTableOf A t (worklist_state A trace) → IsTableOf (left_open A) t (worklist_state (left_open A) trace)
  table_too trace t legal is at = block_same at (t at) (worklist_state (left_open A) trace at) (subst (λ (r : Option (Reached E)). IsBlockOf A at (t at) r) (same_play trace legal at) (is at))

  -- no block of such a table is open
  no_ending : (b : Listing E) (given : Outcome E W) → Tells A b given → ending_of given ≡ None
  no_ending b (undecodable word) t = absurd t
  no_ending b (too_many shown uses) t = absurd t
  no_ending b (moves targets post uses) t = refl
  no_ending b (sends arrivals uses) t = refl

  nowhere_at : (at : ℕ) (o : Option (Listing E)) (r : Option (Reached E)) → IsBlockOf A at o r → ending_at A at o ≡ None
  nowhere_at at None r is = refl
  nowhere_at at (Some b) None is = absurd is
  nowhere_at at (Some b) (Some r) is = no_ending b (A.transfer at b.elem) is.1

-- ---- a text without endings

module _ {E W : Type 0} (word_text : ℕ → W → List ℕ) (IsElement : E → List ℕ → Type 0) (spec : Spec) (t : Listings E) (ends : Endings W) (none : IsNowhereOpen ends) where
  open_at : (at : ℕ) (o : Option (Listing E)) (first : List ℕ) → IsAt IsElement spec at o first → IsOpenAt word_text IsElement spec at o (ends at) first
  open_at at None first is = is
  open_at at (Some b) first is = record {
    block = first;
    is_block = is;
    lines = sym (ap (λ (e : Option (Ending W)). first ++ ending_text word_text e) (none at) ∙ append-nil first);
  }

  open_blocks : (at : List ℕ) (blocks : List ℕ) → AreBlocks IsElement spec t at blocks → AreOpenBlocks word_text IsElement spec t ends at blocks
  open_blocks _ _ closed.none = opens.none
  open_blocks _ _ (closed.onto {at = a} {addresses = later} first rest is more) = opens.onto first rest (open_at a (t a) first is) (open_blocks later rest more)

  open_text : (image : Image) (base text : List ℕ) → IsTableText IsElement spec image base t text → IsOpenTableText word_text IsElement spec image base t ends text
  open_text image base text is = record { blocks = is.blocks; are_blocks = open_blocks (addresses image.segments) is.blocks is.are_blocks; lines = is.lines }

-- ---- the table of an analysis

module _ {E W N C : Type 0} (domain : DomainOf E W N C) (p : Problem) where
  nowhere_open : (trace : List ℕ) (t : Listings E) → IsTableOf (analysis domain p) t (worklist_state (analysis domain p) trace) → IsNowhereOpen (open_endings domain p t)
  nowhere_open trace t is a = nowhere_at (analysis domain p) a (t a) (worklist_state (analysis domain p) trace a) (is a)

  pub closed_is_open : (image : Image) (base bytes : List ℕ) → IsTable domain p image base bytes → IsOpenTable domain p image base bytes
  closed_is_open image base bytes h = record {
    trace = h.trace;
    table = h.table;
    ends = open_endings domain p h.table;
    legal = legal_too (analysis domain p) h.trace h.legal;
    complete = full_too (analysis domain p) h.trace h.legal h.complete;
    few = h.few;
    is_table = table_too (analysis domain p) h.trace h.table h.legal h.is_table;
    fits = h.fits;
    endings = λ a. refl;
    is_true = (open_truth_is_truth domain.base domain.elements p h.table (open_endings domain p h.table) (nowhere_open h.trace h.table h.is_table)).1 h.is_true;
    text = open_text domain.word_text (domain.IsText p.spec) p.spec h.table (open_endings domain p h.table) (nowhere_open h.trace h.table h.is_table) image base bytes h.text;
  }
