mod DetectorEndLemmas
mod ErrorLineLemmas
mod HeldTextLemmas
mod NameLemmas
mod ShortLineLemmas
mod TextLemmas
