mod NumberLemmas
mod SpanLemmas
mod ValueLemmas
