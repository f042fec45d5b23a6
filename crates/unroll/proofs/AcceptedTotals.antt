-- The totals of a circuit that isn't refused are those of what it lists, and each fits 32 bits; so its items make a program.
use Rattle.std.proofs.Common.{◌≡◌, ◌≤◌, ◌<◌, ◌^◌, ℕ, None, sym, ap, ◌∙◌, subst, arith}
use Rattle.std.specs.Prelude.{min}
use Rattle.std.proofs.Math.Nat.{min-eq_left}
use Rattle.stim_lexer.specs.Flat.{tree_of}
use Rattle.stim_lexer.specs.Fitting.{IsBuilt}
use Rattle.stim_lexer.specs.Stored.{tree_of-items}
use Rattle.stim_lexer.specs.Trees.{items_of}
use Rattle.stim_parser.specs.Circuits.{Fits}
use Rattle.stim_parser.specs.Probabilities.{Keeps}
use Rattle.stim_parser.specs.Trees.{Tree}
use Rattle.stim_parser.specs.Verdicts.{circuit_table}
use Rattle.circuit_walk.specs.declared.program.Parts.{Parts}
use Rattle.circuit_walk.specs.declared.program.Totals as narrow
use Rattle.circuit_walk.specs.Made.{PartsFit}
use Rattle.circuit_walk.specs.Meaning.{listing_of}
use Rattle.circuit_walk.specs.Made as made
use Rattle.circuit_walk.specs.Refusals.{circuit_refusal}
use Rattle.circuit_walk.specs.Totals.{observable_total}
use Rattle.unroll.specs.declared.totals.Totals.{Totals}
use Rattle.unroll.specs.private.Accepted.{HasTotals, IsAccepted}
use Rattle.unroll.specs.private.Counted.{refusal_counted}
use Rattle.unroll.specs.private.MadeTotals.{collapse_total, detector_total, fault_total, made_total, record_total}
use Rattle.unroll.specs.private.Summed.{AreTotals, greatest}
use Rattle.unroll.proofs.ListedTotals.{lengths}
use Rattle.unroll.proofs.ReachedCounts.{observables_few}
use Rattle.unroll.proofs.RefusalLemmas.{within_limits}
use Rattle.unroll.proofs.StepCounts.{faults_few, made_few}

small-min : (a b : ℕ) → a ≤ 64_000_000 → b ≡ min a greatest → b ≡ a
small-min a b h e = e ∙ min-eq_left (omega (arith, h))

-- the totals that a program keeps are those of the circuit, and small
pub record AreWhole (t : Tree) (totals : Totals) : Type 0 where
  pub records : totals.records ≡ record_total t
  pub collapses : totals.collapses ≡ collapse_total t
  pub detectors : totals.detectors ≡ detector_total t
  pub faults : totals.faults ≡ fault_total t
  pub made : totals.made ≡ made_total t
  pub observables : totals.observables ≡ observable_total t
  pub few_records : totals.records < 2 ^ 32
  pub few_collapses : totals.collapses < 2 ^ 32
  pub few_faults : totals.faults < 2 ^ 32

pub totals_whole : (t : Tree) (totals : Totals) → refusal_counted t ≡ None → AreTotals t totals → AreWhole t totals
totals_whole t totals accepted are =
    let within = within_limits t accepted in
    let made_small : made_total t ≤ 64_000_000 = omega (arith, made_few t, within.steps) in
    let faults_small : fault_total t ≤ 64_000_000 = omega (arith, faults_few t, within.steps) in
    let records = small-min (record_total t) totals.records (omega (arith, within.records)) are.records in
    let collapses = small-min (collapse_total t) totals.collapses (omega (arith, within.collapses)) are.collapses in
    let faults = small-min (fault_total t) totals.faults faults_small are.faults in
    let detectors = small-min (detector_total t) totals.detectors (omega (arith, within.detectors)) are.detectors in
    record {
      records = records;
      collapses = collapses;
      detectors = detectors;
      observables = are.observables;
      faults = faults;
      made = small-min (made_total t) totals.made made_small are.made;
      few_records = omega (arith, records, within.records);
      few_collapses = omega (arith, collapses, within.collapses);
      few_faults = omega (arith, faults, faults_small);
    }

pub totals_fit : (t : Tree) (totals : Totals) → IsAccepted t totals → HasTotals totals
totals_fit t totals h =
    let whole = totals_whole t totals h.counted h.are_totals in
    let within = within_limits t h.counted in
    record {
      records = omega (arith, whole.few_records);
      collapses = omega (arith, whole.few_collapses);
      faults = omega (arith, whole.few_faults);
      made = omega (arith, whole.made, made_few t, within.steps);
      detectors = omega (arith, whole.detectors, within.detectors);
      observables = omega (arith, whole.observables, observables_few t within.observables);
    }

-- totals in 32 bits that are those of 64
pub record AreNarrowed (totals : Totals) (narrowed : narrow.Totals) : Type 0 where
  pub qubits : narrowed.qubits ≡ totals.qubits
  pub records : narrowed.counts.records ≡ totals.records
  pub collapses : narrowed.counts.collapses ≡ totals.collapses
  pub faults : narrowed.counts.faults ≡ totals.faults
  pub steps : narrowed.steps ≡ totals.made
  pub detectors : narrowed.detectors ≡ totals.detectors
  pub observables : narrowed.observables ≡ totals.observables

pub parts_fit : {A : Type 0} (t : Tree) (totals : Totals) → IsAccepted t totals → (parts : Parts A) → parts.read.items.items ≡ items_of t → Keeps circuit_table parts.read.texts.items parts.read.items → AreNarrowed totals parts.totals → PartsFit parts
parts_fit t totals h parts items kept narrowed =
    let whole = totals_whole t totals h.counted h.are_totals in
    let all = lengths t in
    let same : t ≡ tree_of parts.read.items.items = sym (ap tree_of items ∙ tree_of-items t) in
    record {
      written = record {
        written = ap items_of (sym same) ∙ sym items;
        fits = subst (IsBuilt Fits) same h.circuit;
      };
      kept = kept;
      accepted = subst (λ u. circuit_refusal u ≡ None) same h.accepted;
      totals = subst (λ u. made.AreTotals (listing_of u) parts.totals) same
          (record {
            qubits = narrowed.qubits ∙ h.are_totals.qubits;
            records = omega (arith, narrowed.records, whole.records, all.records);
            collapses = omega (arith, narrowed.collapses, whole.collapses, all.collapses);
            faults = omega (arith, narrowed.faults, whole.faults, all.faults);
            steps = omega (arith, narrowed.steps, whole.made, all.steps);
            detectors = omega (arith, narrowed.detectors, whole.detectors, all.detectors);
            observables = omega (arith, narrowed.observables, whole.observables, all.observables);
          });
    }
