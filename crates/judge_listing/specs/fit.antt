pub mod FitText
