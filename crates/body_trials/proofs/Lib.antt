mod Below
mod Made
mod Numbers
mod Ready
