pub mod ColumnLemmas
mod CountLemmas
pub mod ExchangeLemmas
pub mod GateLemmas
pub mod HalfLemmas
pub mod KeptLemmas
pub mod LengthLemmas
pub mod LoneTerms
mod MemberLists
pub mod MultiplyLemmas
mod PairLemmas
mod RowLists
pub mod SetLemmas
mod TimesAll
mod TimesEach
pub mod TransposedLemmas
pub mod WordLemmas
